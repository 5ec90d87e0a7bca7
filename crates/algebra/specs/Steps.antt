-- The baby step. From (Q, P), with r the remainder of P + d by Q, it goes to P₁ = d − r and Q₁ = (D − P₁·P₁) / Q, and on to
-- the standard form of (Q₁, P₁).
use Rattle.std.specs.Prelude.{◌≡◌, ◌≢◌, ℕ, ◌<◌}
use Rattle.ring.proofs.PolyRing.{PolyRing}
use Rattle.algebra.specs.Settings.{Setting}
use Rattle.algebra.specs.Ideals.{Ideal, StandardForm}

module _ {C R : Type 0} (K : PolyRing C R) (S : Setting K) where
  infixl 60 ◌⊕◌
  infixl 70 ◌⊗◌
  infix 80 ⊖◌
  open K use {r, len}
  open S use {D, d}
  open r use {𝟘, ◌⊕◌, ⊖◌, ◌⊗◌}

  -- from (Q, P) to (Q₁, P₁), before that is brought to standard form; s is the remainder
  pub record BabyStep (Q P Q₁ P₁ : R) : Type 0 where
    pub k : R
    pub s : R
    pub alive : Q ≢ 𝟘
    pub division : P ⊕ d ≡ k ⊗ Q ⊕ s
    pub short : len s < len Q
    pub next : P₁ ≡ d ⊕ ⊖ s
    pub split : Q ⊗ Q₁ ≡ D ⊕ ⊖ (P₁ ⊗ P₁)

  -- the step from the ideal a to the ideal b. Its length is deg (P₁ + d) − deg Q, that is far − len Q; it may be negative
  pub record StepTo (a b : Ideal r D) (far : ℕ) : Type 0 where
    pub Q₁ : R
    pub P₁ : R
    pub steps_to : BabyStep a.Q a.P Q₁ P₁
    pub standard_to : StandardForm K S Q₁ P₁ b
    pub far_is : far ≡ len (P₁ ⊕ d)
