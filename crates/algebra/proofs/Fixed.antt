-- The rules fix their results: an ideal in standard form is its set, so that the product is one whatever the multipliers; and so are
-- the step, the reduction, the walk and the gap.
use mathlib.Core.Path.{◌≡◌, refl, sym, ◌∙◌, ap, ap₂, subst}
use mathlib.Core.List.{[], ◌∷◌}
use Prim.Native.Nat.{ℕ}
use native.Mathlib.Omega.{arith}
use Rattle.ring.proofs.Ring.{Divides}
use Rattle.ring.proofs.Quote.{quote, auto}
use Rattle.ring.proofs.Hypotheses.{by_hyp, by_null, null, ◌⊞◌}
use Rattle.ring.proofs.PolyRing.{PolyRing}
use Rattle.ring.proofs.Order.{O, mk, times, order, in_times}
use Rattle.algebra.proofs.Degrees.{degree}
use Rattle.ring.proofs.Lengths.{cancel-⊗, ⊗-cancel}
use Rattle.algebra.proofs.Ideal.{in_Q, in_y}
use Rattle.ring.proofs.Euclid.{divides_len, remainder_unique, Monic, monic_unique}
use Rattle.algebra.proofs.Product.{s_alive, product_to, product_from}
use Rattle.algebra.proofs.Sites.{O_zero?, plain_alive}
use Rattle.algebra.proofs.Unique.{ideal_path}
use Rattle.algebra.proofs.Step.{standard-⊆, standard-⊇}
use Rattle.algebra.specs.Settings.{Setting}
use Rattle.algebra.specs.Ideals.{Ideal, I, Standard, StandardForm}
use Rattle.algebra.specs.Products.{Product}
use Rattle.algebra.specs.Steps.{StepTo}
use Rattle.algebra.specs.Places.{Reduces, reduced, reduce, Walks, stop, walk, Adds}

module _ {C R : Type 0} (K : PolyRing C R) (S : Setting K) where
  infixl 60 ◌⊕◌
  infixl 70 ◌⊗◌
  infix 80 ⊖◌
  open K use {r, len, coef}
  open S use {D, d, m}
  open r use {𝟘, 𝟙, ◌⊕◌, ⊖◌, ◌⊗◌}

  -- a tidy ideal is its set
  pub standard_unique : (a b : Ideal r D) → Standard K S a → Standard K S b → ((ζ : O R) → I r a ζ → I r b ζ) → ((ζ : O R) → I r b ζ → I r a ζ) → a ≡ b
  standard_unique a b ta tb f g = ideal_path K S a b same_Q same_P
    where
      into : (x y : Ideal r D) → ((ζ : O R) → I r x ζ → I r y ζ) → Divides r y.Q x.Q
      into x y h =
          let w = h (mk x.Q 𝟘) (in_Q r x.Q x.P) in
          (w.0, by_hyp r 𝟙 w.1 (auto r (x.Q ∷ y.Q ∷ y.P ∷ w.0 ∷ []) (search quote depth 20) tt))

      same_Q : a.Q ≡ b.Q
      same_Q = monic_unique K a.Q b.Q a.alive b.alive ta.monic tb.monic (into b a g) (into a b f)

      same_P : a.P ≡ b.P
      same_P =
          let w = f (mk a.P 𝟙) (in_y r a.Q a.P) in
          let l = ap len same_Q in
          remainder_unique K b.Q 𝟘 a.P w.0 b.P
          (by_hyp r 𝟙 w.1 (auto r (a.P ∷ b.Q ∷ b.P ∷ w.0 ∷ []) (search quote depth 20) tt))
          (omega (arith, ta.small)) tb.small

  pub standard_form_unique : (Q P Q' P' : R) (b c : Ideal r D) → Q ≡ Q' → P ≡ P' → StandardForm K S Q P b → StandardForm K S Q' P' c → b ≡ c
  standard_form_unique Q P Q' P' b c e_q e_p ν μ = standard_unique b c ν.standard μ.standard
      (λ ζ h. standard-⊆ K S Q' P' c μ ζ (rw (sym e_q, sym e_p) (standard-⊇ K S Q P b ν ζ h)))
      (λ ζ h. standard-⊆ K S Q P b ν ζ (rw (e_q, e_p) (standard-⊇ K S Q' P' c μ ζ h)))

  -- the step, of every ideal
  pub step_fixed : {a b c : Ideal r D} {f g : ℕ} → StepTo K S a b f → StepTo K S a c g → (b ≡ c) × (f ≡ g)
  step_fixed {a} {b} {c} {f} {g} σ τ = (
    standard_form_unique σ.Q₁ σ.P₁ τ.Q₁ τ.P₁ b c same_Q same_P σ.standard_to τ.standard_to,
    σ.far_is ∙ ap (λ x. len (x ⊕ d)) same_P ∙ sym τ.far_is,
  )
    where
      same_s : σ.steps_to.s ≡ τ.steps_to.s
      same_s = remainder_unique K a.Q σ.steps_to.k σ.steps_to.s τ.steps_to.k τ.steps_to.s
          (sym σ.steps_to.division ∙ τ.steps_to.division) σ.steps_to.short τ.steps_to.short

      same_P : σ.P₁ ≡ τ.P₁
      same_P = σ.steps_to.next ∙ ap (λ x. d ⊕ ⊖ x) same_s ∙ sym τ.steps_to.next

      same_Q : σ.Q₁ ≡ τ.Q₁
      same_Q = ⊗-cancel K a.Q σ.Q₁ τ.Q₁ a.alive
          (σ.steps_to.split ∙ ap (λ x. D ⊕ ⊖ (x ⊗ x)) same_P ∙ sym τ.steps_to.split)

  pub reduces_fixed : {a b c c' : Ideal r D} {s s' : ℕ} → a ≡ b → Reduces K S a c s → Reduces K S b c' s' → (c ≡ c') × (s ≡ s')
  reduces_fixed p (reduced h) (reduced g) = (p, refl)
  reduces_fixed p (reduced h) (reduce g τ i v) = absurd (omega (arith, ap (λ x. len x.Q) p))
  reduces_fixed p (reduce h σ e w) (reduced g) = absurd (omega (arith, ap (λ x. len x.Q) p))
  reduces_fixed p (reduce {b = b} {far = f} h σ e w) (reduce {b = b'} {far = f'} g τ i v) =
      let (q, x) = step_fixed σ (subst (λ z. StepTo K S z b' f') (sym p) τ) in
      let (y, z) = reduces_fixed q w v in
      (y, omega (arith, x, z, ap (λ x. len x.Q) p))

  pub walks_fixed : {a b c c' : Ideal r D} {g h s s' : ℕ} → a ≡ b → g ≡ h → Walks K S a g c s → Walks K S b h c' s' → (c ≡ c') × (s ≡ s')
  walks_fixed p q (stop h) (stop g) = (p, q)
  walks_fixed p q (stop h) (walk g τ i v) = absurd (omega (arith, ap (λ x. len x.Q) p))
  walks_fixed p q (walk h σ e w) (stop g) = absurd (omega (arith, ap (λ x. len x.Q) p))
  walks_fixed p q (walk {b = b} {far = f} h σ e w) (walk {b = b'} {far = f'} g τ i v) =
      let (k, x) = step_fixed σ (subst (λ z. StepTo K S z b' f') (sym p) τ) in
      walks_fixed k (omega (arith, x, ap (λ x. len x.Q) p)) w v

  -- the greatest common divisor
  gcd_into : (a b : Ideal r D) (s Qc Pc t Qe Pe : R) → Product K S a b s Qc Pc → Product K S a b t Qe Pe → Divides r t s
  gcd_into a b s Qc Pc t Qe Pe π ρ = (
    π.X ⊗ ρ.div_a.0 ⊕ π.Z ⊗ ρ.div_b.0 ⊕ π.Y ⊗ ρ.div_p.0,
    by_null (null r 𝟙 π.is ⊞ null r π.X ρ.div_a.1 ⊞ null r π.Z ρ.div_b.1 ⊞ null r π.Y ρ.div_p.1)
        (auto r (s ∷ t ∷ π.X ∷ π.Y ∷ π.Z ∷ a.Q ∷ b.Q ∷ a.P ∷ b.P ∷ ρ.div_a.0 ∷ ρ.div_b.0 ∷ ρ.div_p.0 ∷ []) (search quote depth 20) tt),
  )

  module _ (a b : Ideal r D) (s Qc Pc t Qe Pe : R) (π : Product K S a b s Qc Pc) (ρ : Product K S a b t Qe Pe) where
    pub gcd_len : len s ≡ len t
    gcd_len = omega (
      arith,
      divides_len K s t (gcd_into a b t Qe Pe s Qc Pc ρ π) (s_alive K S a b t Qe Pe ρ),
      divides_len K t s (gcd_into a b s Qc Pc t Qe Pe π ρ) (s_alive K S a b s Qc Pc π),
    )

    pub gcd_unique : Monic K s → Monic K t → s ≡ t
    gcd_unique ms mt = monic_unique K s t (s_alive K S a b s Qc Pc π) (s_alive K S a b t Qe Pe ρ) ms mt
        (gcd_into a b t Qe Pe s Qc Pc ρ π) (gcd_into a b s Qc Pc t Qe Pe π ρ)

  product_into : (a b : Ideal r D) (s Qc Pc t Qe Pe : R) (π : Product K S a b s Qc Pc) (ρ : Product K S a b t Qe Pe)
      (c e : Ideal r D) → StandardForm K S Qc Pc c → StandardForm K S Qe Pe e → (ζ : O R) → I r c ζ → I r e ζ
  product_into a b s Qc Pc t Qe Pe π ρ c e ν μ ζ h =
      let x = product_from K S a b s Qc Pc π ζ (standard-⊇ K S Qc Pc c ν ζ h) in
      let y = product_to K S a b t Qe Pe ρ x.0 x.1 in
      let w = gcd_into a b t Qe Pe s Qc Pc ρ π in
      let same : ζ ≡ times r D (mk w.0 𝟘) y.0 =
      cancel-⊗ (order r D) (O_zero? K S) (degree K S).domain (mk s 𝟘) ζ (times r D (mk w.0 𝟘) y.0) (plain_alive K S s (s_alive K S a b s Qc Pc π))
      (x.2 ∙ y.2 ∙ spread w.0 s t y.0 w.1) in
      subst (I r e) (sym same) (in_times r D e.Q e.P e.exact (mk w.0 𝟘) y.0 (standard-⊆ K S Qe Pe e μ y.0 y.1))
    where
      spread : (k s t : R) (η : O R) → t ≡ k ⊗ s → times r D (mk t 𝟘) η ≡ times r D (mk s 𝟘) (times r D (mk k 𝟘) η)
      spread k s t η e = ap₂ mk
          (by_hyp r η.u e (auto r (k ∷ s ∷ t ∷ η.u ∷ η.v ∷ D ∷ []) (search quote depth 20) tt))
          (by_hyp r η.v e (auto r (k ∷ s ∷ t ∷ η.u ∷ η.v ∷ D ∷ []) (search quote depth 20) tt))

  -- the product does not depend on the multipliers
  pub product_fixed : (a b : Ideal r D) (s Qc Pc t Qe Pe : R) → Product K S a b s Qc Pc → Product K S a b t Qe Pe
      → (c e : Ideal r D) → StandardForm K S Qc Pc c → StandardForm K S Qe Pe e → c ≡ e
  product_fixed a b s Qc Pc t Qe Pe π ρ c e ν μ =
      standard_unique c e ν.standard μ.standard (product_into a b s Qc Pc t Qe Pe π ρ c e ν μ) (product_into a b t Qe Pe s Qc Pc ρ π e c μ ν)

  -- nor do ε and the gap
  pub adds_fixed : {a b c e : Ideal r D} {f g h k : ℕ} (A : Adds K S a f b g c h) (B : Adds K S a f b g e k)
      → (A.small ≡ B.small) × (A.saved ≡ B.saved) × (A.gap ≡ B.gap) × (len A.s ≡ len B.s)
  adds_fixed {a} {b} A B =
      let l = gcd_len a b A.s A.Qc A.Pc B.s B.Qc B.Pc A.is_product B.is_product in
      let p = product_fixed a b A.s A.Qc A.Pc B.s B.Qc B.Pc A.is_product B.is_product A.whole B.whole A.is_normal B.is_normal in
      let (q, e) = reduces_fixed p A.is_reduced B.is_reduced in
      (q, e, omega (arith, l, e, A.gap_is, B.gap_is), l)
