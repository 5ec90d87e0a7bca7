-- Products of ideals. S = gcd (Qa, Qb, Pa + Pb) = X·Qa + Z·Qb + Y·(Pa + Pb); the multipliers X, Y, Z are free.
use Rattle.std.specs.Prelude.{◌≡◌}
use Rattle.ring.proofs.Ring.{Divides}
use Rattle.ring.proofs.PolyRing.{PolyRing}
use Rattle.algebra.specs.Settings.{Setting}
use Rattle.algebra.specs.Ideals.{Ideal}

module _ {C R : Type 0} (K : PolyRing C R) (S : Setting K) where
  infixl 60 ◌⊕◌
  infixl 70 ◌⊗◌
  infix 80 ⊖◌
  open K use {r}
  open S use {D}
  open r use {◌⊕◌, ⊖◌, ◌⊗◌}

  -- s·(Qc, Pc) is the product of a and b: Qc = Qa·Qb / s² and s·Pc = X·Qa·Pb + Z·Qb·Pa + Y·(Pa·Pb + D)
  pub record Product (a b : Ideal r D) (s Qc Pc : R) : Type 0 where
    pub X : R
    pub Y : R
    pub Z : R
    pub is : s ≡ X ⊗ a.Q ⊕ Z ⊗ b.Q ⊕ Y ⊗ (a.P ⊕ b.P)
    pub div_a : Divides r s a.Q
    pub div_b : Divides r s b.Q
    pub div_p : Divides r s (a.P ⊕ b.P)
    pub Q_is : a.Q ⊗ b.Q ≡ s ⊗ s ⊗ Qc
    pub P_is : s ⊗ Pc ≡ X ⊗ a.Q ⊗ b.P ⊕ Z ⊗ b.Q ⊗ a.P ⊕ Y ⊗ (a.P ⊗ b.P ⊕ D)
