-- The set I(Q, P) of all u + v·y with Q | u − v·P, over any ring: its generators Q and P + y, its conjugate, and what leaves it as
-- it is: a constant factor of Q, another remainder of P. Then the step as an equation of sets, (P₁ + y)·I(Q, P) = Q·I(Q₁, P₁).
use mathlib.Core.Path.{◌≡◌, ◌∙◌, ap₂}
use mathlib.Core.Logic.{◌≢◌}
use mathlib.Core.List.{[], ◌∷◌}
use Rattle.ring.proofs.Ring.{CommRing, Divides}
use Rattle.ring.proofs.Quote.{quote, auto}
use Rattle.ring.proofs.Hypotheses.{by_hyp, by_hyp₂, by_hyp₃}
use Rattle.ring.proofs.Order.{O, mk, order, conj}
use Rattle.ring.proofs.Sets.{Sub}
use Rattle.algebra.specs.Ideals.{In, Ideal}

module _ {R : Type 0} (r : CommRing R) where
  infixl 60 ◌⊕◌
  infixl 70 ◌⊗◌
  infix 80 ⊖◌
  open r use {𝟘, 𝟙, ◌⊕◌, ⊖◌, ◌⊗◌}

  -- the two generators
  pub in_Q : (Q P : R) → In r Q P (mk Q 𝟘)
  in_Q Q P = (𝟙, auto r (Q ∷ P ∷ []) (search quote depth 20) tt)

  pub in_y : (Q P : R) → In r Q P (mk P 𝟙)
  in_y Q P = (𝟘, auto r (Q ∷ P ∷ []) (search quote depth 20) tt)

  -- a sum of multiples of the generators is in the ideal
  pub in_sum : (Q P a b : R) → In r Q P (mk (a ⊗ Q ⊕ b ⊗ P) b)
  in_sum Q P a b = (a, auto r (Q ∷ P ∷ a ∷ b ∷ []) (search quote depth 20) tt)

  -- the conjugate of an ideal
  pub opposite_exact : (D Q P : R) → Divides r Q (D ⊕ ⊖ (P ⊗ P)) → Divides r Q (D ⊕ ⊖ (⊖ P ⊗ ⊖ P))
  opposite_exact D Q P h = (h.0, auto r (D ∷ P ∷ []) (search quote depth 20) tt ∙ h.1)

  abbrev pub opposite : {D : R} → Ideal r D → Ideal r D
  opposite {D} a = record { Q = a.Q; P = ⊖ a.P; alive = a.alive; exact = opposite_exact D a.Q a.P a.exact }

  pub conj_in : (D Q P : R) (ζ : O R) → In r Q P ζ → In r Q (⊖ P) (conj r D ζ)
  conj_in D Q P ζ h = (h.0, auto r (P ∷ ζ.u ∷ ζ.v ∷ []) (search quote depth 20) tt ∙ h.1)

  pub in_conj : (D Q P : R) (ζ : O R) → In r Q (⊖ P) ζ → In r Q P (conj r D ζ)
  in_conj D Q P ζ h = (h.0, auto r (P ∷ ζ.u ∷ ζ.v ∷ []) (search quote depth 20) tt ∙ h.1)

  -- a unit c, with c e = 1: c Q has the multiples of Q
  module _ (c e : R) (inverse : c ⊗ e ≡ 𝟙) where
    pub scale : (Q b : R) → Divides r Q b → Divides r (c ⊗ Q) b
    scale Q b h = (h.0 ⊗ e, by_hyp₂ r 𝟙 h.1 (⊖ (h.0 ⊗ Q)) inverse (auto r (Q ∷ b ∷ c ∷ e ∷ h.0 ∷ []) (search quote depth 20) tt))

    pub scale⁻¹ : (Q b : R) → Divides r (c ⊗ Q) b → Divides r Q b
    scale⁻¹ Q b h = (h.0 ⊗ c, by_hyp r 𝟙 h.1 (auto r (Q ∷ b ∷ c ∷ h.0 ∷ []) (search quote depth 20) tt))

    pub scale_alive : (Q : R) → Q ≢ 𝟘 → c ⊗ Q ≢ 𝟘
    scale_alive Q h z = h (by_hyp₂ r e z (⊖ Q) inverse (auto r (Q ∷ c ∷ e ∷ []) (search quote depth 20) tt))

  -- P and its remainder by Q
  module _ (Q P P₁ q : R) (left : P ≡ q ⊗ Q ⊕ P₁) where
    pub remainder : (ζ : O R) → In r Q P ζ → In r Q P₁ ζ
    remainder ζ h = (h.0 ⊕ ζ.v ⊗ q, by_hyp₂ r 𝟙 h.1 ζ.v left (auto r (Q ∷ P ∷ P₁ ∷ q ∷ ζ.u ∷ ζ.v ∷ h.0 ∷ []) (search quote depth 20) tt))

    pub remainder⁻¹ : (ζ : O R) → In r Q P₁ ζ → In r Q P ζ
    remainder⁻¹ ζ h = (h.0 ⊕ ⊖ (ζ.v ⊗ q), by_hyp₂ r 𝟙 h.1 (⊖ ζ.v) left (auto r (Q ∷ P ∷ P₁ ∷ q ∷ ζ.u ∷ ζ.v ∷ h.0 ∷ []) (search quote depth 20) tt))

    pub remainder_exact : (D : R) → Divides r Q (D ⊕ ⊖ (P ⊗ P)) → Divides r Q (D ⊕ ⊖ (P₁ ⊗ P₁))
    remainder_exact D h =
        (h.0 ⊕ q ⊗ (P ⊕ P₁), by_hyp₂ r 𝟙 h.1 (P ⊕ P₁) left (auto r (Q ∷ P ∷ P₁ ∷ q ∷ D ∷ h.0 ∷ []) (search quote depth 20) tt))

  -- the step: P + P₁ = k Q and Q Q₁ = D − P₁²
  module _ (D Q P Q₁ P₁ k : R) (turn : P ⊕ P₁ ≡ k ⊗ Q) (split : Q ⊗ Q₁ ≡ D ⊕ ⊖ (P₁ ⊗ P₁)) where
    pub step-⊆ : Sub (order r D) (mk P₁ 𝟙) (In r Q P) (mk Q 𝟘) (In r Q₁ P₁)
    step-⊆ ζ h = (
      mk (P₁ ⊗ h.0 ⊕ ζ.v ⊗ (Q₁ ⊕ k ⊗ P₁)) (h.0 ⊕ ζ.v ⊗ k),
      (ζ.v, auto r (Q₁ ∷ P₁ ∷ k ∷ h.0 ∷ ζ.v ∷ []) (search quote depth 20) tt),
      ap₂ mk
          (by_hyp₃ r P₁ h.1 (P₁ ⊗ ζ.v) turn (⊖ ζ.v) split
          (auto r (D ∷ Q ∷ P ∷ Q₁ ∷ P₁ ∷ k ∷ h.0 ∷ ζ.u ∷ ζ.v ∷ []) (search quote depth 20) tt))
          (by_hyp₂ r 𝟙 h.1 ζ.v turn
          (auto r (D ∷ Q ∷ P ∷ Q₁ ∷ P₁ ∷ k ∷ h.0 ∷ ζ.u ∷ ζ.v ∷ []) (search quote depth 20) tt)),
    )

    pub step-⊇ : Sub (order r D) (mk Q 𝟘) (In r Q₁ P₁) (mk P₁ 𝟙) (In r Q P)
    step-⊇ η h = (
      mk ((η.v ⊕ ⊖ (h.0 ⊗ k)) ⊗ Q ⊕ h.0 ⊗ P) h.0,
      (η.v ⊕ ⊖ (h.0 ⊗ k), auto r (Q ∷ P ∷ k ∷ h.0 ∷ η.v ∷ []) (search quote depth 20) tt),
      ap₂ mk
          (by_hyp₃ r Q h.1 (⊖ (P₁ ⊗ h.0)) turn h.0 split
          (auto r (D ∷ Q ∷ P ∷ Q₁ ∷ P₁ ∷ k ∷ h.0 ∷ η.u ∷ η.v ∷ []) (search quote depth 20) tt))
          (by_hyp r (⊖ h.0) turn
          (auto r (D ∷ Q ∷ P ∷ Q₁ ∷ P₁ ∷ k ∷ h.0 ∷ η.u ∷ η.v ∷ []) (search quote depth 20) tt)),
    )

  -- the quotient Q₁ is there
  pub step_split : (D Q P P₁ k : R) → P ⊕ P₁ ≡ k ⊗ Q → Divides r Q (D ⊕ ⊖ (P ⊗ P)) → (Q₁ : R) × (Q ⊗ Q₁ ≡ D ⊕ ⊖ (P₁ ⊗ P₁))
  step_split D Q P P₁ k turn h = (
    h.0 ⊕ ⊖ (k ⊗ k ⊗ Q) ⊕ (k ⊗ P ⊕ k ⊗ P),
    by_hyp₂ r (⊖ 𝟙) h.1 (P₁ ⊕ k ⊗ Q ⊕ ⊖ P) turn (auto r (D ∷ Q ∷ P ∷ P₁ ∷ k ∷ h.0 ∷ []) (search quote depth 20) tt),
  )

  -- from the division P + d = k Q + s
  pub step_turn : (Q P d k s : R) → P ⊕ d ≡ k ⊗ Q ⊕ s → P ⊕ (d ⊕ ⊖ s) ≡ k ⊗ Q
  step_turn Q P d k s h = by_hyp r 𝟙 h (auto r (Q ∷ P ∷ d ∷ k ∷ s ∷ []) (search quote depth 20) tt)
