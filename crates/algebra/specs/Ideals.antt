-- Ideals (Q, P) of the ring of u + v·y, where y·y = D.
use Rattle.std.specs.Prelude.{◌≡◌, ◌≢◌, ℕ, ◌+◌, ◌≤◌, ◌<◌}
use Rattle.ring.proofs.Ring.{CommRing, Divides, one_divides}
use Rattle.ring.proofs.PolyRing.{PolyRing}
use Rattle.ring.proofs.Order.{O}
use Rattle.ring.proofs.Lengths.{alive_one}
use Rattle.algebra.specs.Settings.{Setting}

module _ {R : Type 0} (r : CommRing R) where
  infixl 60 ◌⊕◌
  infixl 70 ◌⊗◌
  infix 80 ⊖◌
  open r use {𝟘, ◌⊕◌, ⊖◌, ◌⊗◌}

  -- u + v·y belongs to (Q, P) if Q divides u − v·P
  abbrev pub In : R → R → O R → Type 0
  In Q P ζ = Divides r Q (ζ.u ⊕ ⊖ (ζ.v ⊗ P))

  -- an ideal: Q is not 0 and divides D − P·P
  pub record Ideal (D : R) : Type 0 where
    pub Q : R
    pub P : R
    pub alive : Q ≢ 𝟘
    pub exact : Divides r Q (D ⊕ ⊖ (P ⊗ P))

  -- its elements
  abbrev pub I : {D : R} → Ideal D → O R → Type 0
  I a = In a.Q a.P

module _ {C R : Type 0} (K : PolyRing C R) (S : Setting K) where
  infixl 60 ◌⊕◌
  infixl 70 ◌⊗◌
  infix 80 ⊖◌
  open K use {r, len}
  open S use {D, m}
  open r use {𝟘, 𝟙, ◌⊕◌, ⊖◌, ◌⊗◌}

  -- (1), the ideal (1, 0): the whole ring
  abbrev pub one : Ideal r D
  one = record { Q = 𝟙; P = 𝟘; alive = alive_one K; exact = one_divides r (D ⊕ ⊖ (𝟘 ⊗ 𝟘)) }

  -- standard form: Q is monic and P has lower degree. Every ideal has one pair (Q, P) of this form.
  pub record Standard (a : Ideal r D) : Type 0 where
    pub small : len a.P < len a.Q
    pub monic : (n : ℕ) → len a.Q ≡ n + 1 → K.coef a.Q n ≡ K.k.𝟙

  -- a is in standard form, and reduced with room for the offset f: 0 ≤ f < m − deg Q
  pub record LawfulAt (a : Ideal r D) (f : ℕ) : Type 0 where
    pub standard : Standard a
    pub fits : f + len a.Q ≤ m

  -- b is the standard form of (Q, P): Q is scaled by a constant to be monic, P is replaced by its remainder
  pub record StandardForm (Q P : R) (b : Ideal r D) : Type 0 where
    pub c : R
    pub e : R
    pub q : R
    pub inverse : c ⊗ e ≡ 𝟙
    pub Q_is : b.Q ≡ c ⊗ Q
    pub P_is : P ≡ q ⊗ b.Q ⊕ b.P
    pub standard : Standard b
