-- The baby step, of every ideal (Q, P): with P + d = k·Q + s and s shorter than Q it goes to P₁ = d − s and Q₁ = (D − P₁²) / Q.
-- It can always be made; the lengths say how far it goes, when the next ideal is reduced, and how deg Q falls until then.
use mathlib.Core.Path.{◌≡◌, refl, sym, ◌∙◌, ap}
use mathlib.Core.Logic.{◌≢◌}
use mathlib.Core.List.{[], ◌∷◌}
use Prim.Native.Nat.{ℕ, ◌+◌, ◌-◌, ◌≤◌, ◌<◌}
use native.Mathlib.Omega.{arith}
use native.Mathlib.Decide.{dec_le}
use Rattle.ring.proofs.Ring.{Divides}
use Rattle.ring.proofs.Quote.{quote, auto}
use Rattle.ring.proofs.Hypotheses.{by_hyp, by_hyp₂}
use Rattle.ring.proofs.PolyRing.{PolyRing}
use Rattle.ring.proofs.Order.{O, mk, order}
use Rattle.ring.proofs.Sets.{Sub}
use Rattle.algebra.proofs.Ideal.{step-⊆, step-⊇, step_turn, step_split, scale, scale⁻¹, scale_alive, remainder, remainder⁻¹, remainder_exact}
use Rattle.ring.proofs.Lengths.{len_pos, pos_len, len_sub, len_mul_≤, right_alive, scale_len, len_twice}
use Rattle.algebra.specs.Settings.{Setting}
use Rattle.algebra.specs.Ideals.{In, Ideal, I, StandardForm}
use Rattle.algebra.specs.Steps.{BabyStep, StepTo}
use Rattle.algebra.proofs.Degrees.{not_square}

module _ {C R : Type 0} (K : PolyRing C R) (S : Setting K) where
  infixl 60 ◌⊕◌
  infixl 70 ◌⊗◌
  infix 80 ⊖◌
  open K use {r, len}
  open S use {D, d, m}
  open r use {𝟘, 𝟙, ◌⊕◌, ⊖◌, ◌⊗◌}

  pub split_alive : (p : R) → D ⊕ ⊖ (p ⊗ p) ≢ 𝟘
  split_alive p e = not_square K S p (by_hyp r 𝟙 e (auto r (D ∷ p ∷ []) (search quote depth 20) tt))

  module _ (Q P : R) (b : Ideal r D) (ν : StandardForm K S Q P b) where
    pub standard-⊆ : (ζ : O R) → In r Q P ζ → I r b ζ
    standard-⊆ ζ h = remainder r b.Q P b.P ν.q ν.P_is ζ
        (rw ν.Q_is (scale r ν.c ν.e ν.inverse Q (ζ.u ⊕ ⊖ (ζ.v ⊗ P)) h))

    pub standard-⊇ : (ζ : O R) → I r b ζ → In r Q P ζ
    standard-⊇ ζ h = scale⁻¹ r ν.c ν.e ν.inverse Q (ζ.u ⊕ ⊖ (ζ.v ⊗ P))
        (rw (sym ν.Q_is) (remainder⁻¹ r b.Q P b.P ν.q ν.P_is ζ h))

    pub normal_len : Q ≢ 𝟘 → len b.Q ≡ len Q
    normal_len h = ap len ν.Q_is ∙ scale_len K ν.c ν.e Q ν.inverse h

  -- every (Q, P) can be made tidy
  pub standard_form : (Q P : R) → Q ≢ 𝟘 → Divides r Q (D ⊕ ⊖ (P ⊗ P)) → (b : Ideal r D) × StandardForm K S Q P b
  standard_form Q P h x =
      let n : ℕ = len Q - 1 in
      let l : len Q ≡ n + 1 = omega (arith, len_pos K Q h) in
      let (c, lc, top) = K.monic Q n l in
      let (e, i) = K.unit c lc in
      let g = scale_alive r c e i Q h in
      let w = K.divide P (c ⊗ Q) g in
      let y = scale_len K c e Q i h in (
        record {
          Q = c ⊗ Q;
          P = w.1;
          alive = g;
          exact = remainder_exact r (c ⊗ Q) P w.1 w.0 w.2 D (scale r c e i Q (D ⊕ ⊖ (P ⊗ P)) x);
        },
        record {
          c = c;
          e = e;
          q = w.0;
          inverse = i;
          Q_is = refl;
          P_is = w.2;
          standard = record { small = w.3; monic = λ k p. (let z : k ≡ n = omega arith in ap (K.coef (c ⊗ Q)) z ∙ top) };
        },
      )

  -- it can be made from every ideal
  pub steps : (a : Ideal r D) → (Q₁ : R) × (P₁ : R) × BabyStep K S a.Q a.P Q₁ P₁
  steps a =
      let w = K.divide (a.P ⊕ d) a.Q a.alive in
      let P₁ = d ⊕ ⊖ w.1 in
      let q = step_split r D a.Q a.P P₁ w.0 (step_turn r a.Q a.P d w.0 w.1 w.2) a.exact in
      (q.0, P₁, record { k = w.0; s = w.1; alive = a.alive; division = w.2; short = w.3; next = refl; split = q.1 })

  module _ (Q P Q₁ P₁ : R) (σ : BabyStep K S Q P Q₁ P₁) where
    P_and_P₁ : P ⊕ P₁ ≡ σ.k ⊗ Q
    P_and_P₁ = by_hyp₂ r 𝟙 σ.division 𝟙 σ.next (auto r (Q ∷ P ∷ P₁ ∷ d ∷ σ.k ∷ σ.s ∷ []) (search quote depth 20) tt)

    -- Q I(Q₁, P₁) = (P₁ + y) I(Q, P)
    pub baby-⊆ : Sub (order r D) (mk P₁ 𝟙) (In r Q P) (mk Q 𝟘) (In r Q₁ P₁)
    baby-⊆ = step-⊆ r D Q P Q₁ P₁ σ.k P_and_P₁ σ.split

    pub baby-⊇ : Sub (order r D) (mk Q 𝟘) (In r Q₁ P₁) (mk P₁ 𝟙) (In r Q P)
    baby-⊇ = step-⊇ r D Q P Q₁ P₁ σ.k P_and_P₁ σ.split

    QQ₁_alive : Q ⊗ Q₁ ≢ 𝟘
    QQ₁_alive e = split_alive P₁ (sym σ.split ∙ e)

    pub baby_alive : Q₁ ≢ 𝟘
    baby_alive = right_alive K Q Q₁ QQ₁_alive

    pub baby_exact : Divides r Q₁ (D ⊕ ⊖ (P₁ ⊗ P₁))
    baby_exact = (Q, sym σ.split)

    -- lengths
    P₁_and_d : P₁ ⊕ d ≡ d ⊕ d ⊕ ⊖ σ.s
    P₁_and_d = by_hyp r 𝟙 σ.next (auto r (P₁ ∷ d ∷ σ.s ∷ []) (search quote depth 20) tt)

    QQ₁_len : len (Q ⊗ Q₁) + 1 ≡ len Q + len Q₁
    QQ₁_len = K.len_mul Q Q₁ σ.alive baby_alive

    QQ₁_is : Q ⊗ Q₁ ≡ (D ⊕ ⊖ (d ⊗ d)) ⊕ σ.s ⊗ (d ⊕ d ⊕ ⊖ σ.s)
    QQ₁_is = by_hyp₂ r 𝟙 σ.split (⊖ (P₁ ⊕ d ⊕ ⊖ σ.s)) σ.next (auto r (D ∷ Q ∷ Q₁ ∷ P₁ ∷ d ∷ σ.s ∷ []) (search quote depth 20) tt)

    QQ₁_len_≤ : (n : ℕ) → m ≤ n → len σ.s + len (d ⊕ d ⊕ ⊖ σ.s) ≤ n + 1 → len (Q ⊗ Q₁) ≤ n
    QQ₁_len_≤ n h g =
        let e = ap len QQ₁_is in
        let i = S.rest in
        let l = K.len_add (D ⊕ ⊖ (d ⊗ d)) (σ.s ⊗ (d ⊕ d ⊕ ⊖ σ.s)) n (omega arith) (len_mul_≤ K σ.s (d ⊕ d ⊕ ⊖ σ.s) n g) in
        omega arith

    2d_less_s_len_≤ : (n : ℕ) → m + 1 ≤ n → len σ.s ≤ n → len (d ⊕ d ⊕ ⊖ σ.s) ≤ n
    2d_less_s_len_≤ n h g =
        let e = S.d_len in
        len_sub K (d ⊕ d) σ.s n (K.len_add d d n (omega arith) (omega arith)) g

    -- Q reduced
    pub reduced_far : len Q ≤ m → len (P₁ ⊕ d) ≡ m + 1
    reduced_far h = ap len P₁_and_d ∙ len_twice K d σ.s (omega (arith, σ.short, S.d_len)) ∙ S.d_len

    pub reduced_next : len Q ≤ m → len Q₁ ≤ m
    reduced_next h =
        let g = σ.short in
        let t = len_twice K d σ.s (omega (arith, S.d_len)) ∙ S.d_len in
        let l = QQ₁_len_≤ (m + len σ.s) (omega arith) (omega arith) in
        omega (arith, QQ₁_len)

    -- Q not reduced
    pub big_far : m + 1 ≤ len Q → len (P₁ ⊕ d) ≤ len Q
    big_far h = let g = σ.short in let e = ap len P₁_and_d in let l = 2d_less_s_len_≤ (len Q) h (omega arith) in omega arith

    pub big_far_alive : m + 1 ≤ len Q → P₁ ⊕ d ≢ 𝟘
    big_far_alive h z =
        let e : Q ⊗ Q₁ ≡ D ⊕ ⊖ (d ⊗ d) =
        by_hyp₂ r 𝟙 σ.split (d ⊕ ⊖ P₁) z (auto r (D ∷ Q ∷ Q₁ ∷ P₁ ∷ d ∷ []) (search quote depth 20) tt) in
        let l = ap len e in
        let i = S.rest in
        let p = len_pos K Q₁ baby_alive in
        omega (arith, QQ₁_len)

    -- what follows is shorter than the step is far
    pub big_short : m + 1 ≤ len Q → len Q₁ < len (P₁ ⊕ d)
    big_short h =
        let a = len_pos K (P₁ ⊕ d) (big_far_alive h) in
        let e = ap len P₁_and_d in
        let l = QQ₁_len_≤ (len Q + len (P₁ ⊕ d) - 2) (omega arith) (omega (arith, σ.short)) in
        omega (arith, QQ₁_len)

    pub big_next : m + 2 ≤ len Q → len Q₁ + 2 ≤ len Q
    big_next h =
        let g = σ.short in
        let t = 2d_less_s_len_≤ (len Q - 1) (omega arith) (omega arith) in
        let l = QQ₁_len_≤ (len Q + len Q - 3) (omega arith) (omega arith) in
        omega (arith, QQ₁_len)

    pub edge_next : len Q ≡ m + 1 → len Q₁ ≤ m
    edge_next h =
        let g = σ.short in
        let t = 2d_less_s_len_≤ (m + 1) (omega arith) (omega arith) in
        let l = QQ₁_len_≤ (m + m) (omega arith) (omega arith) in
        omega (arith, QQ₁_len)

  pub step_exists : (a : Ideal r D) → (b : Ideal r D) × (far : ℕ) × StepTo K S a b far
  step_exists a =
      let (Q₁, P₁, σ) = steps a in
      let (b, ν) = standard_form Q₁ P₁ (baby_alive a.Q a.P Q₁ P₁ σ) (baby_exact a.Q a.P Q₁ P₁ σ) in
      (b, len (P₁ ⊕ d), record { Q₁ = Q₁; P₁ = P₁; steps_to = σ; standard_to = ν; far_is = refl })

  module _ {a b : Ideal r D} {far : ℕ} (σ : StepTo K S a b far) where
    pub step_len : len b.Q ≡ len σ.Q₁
    step_len = normal_len σ.Q₁ σ.P₁ b σ.standard_to (baby_alive a.Q a.P σ.Q₁ σ.P₁ σ.steps_to)

    pub step_far : len a.Q ≤ m → far ≡ m + 1
    step_far h = σ.far_is ∙ reduced_far a.Q a.P σ.Q₁ σ.P₁ σ.steps_to h

    pub step_reduced : len a.Q ≤ m → len b.Q ≤ m
    step_reduced h = omega (arith, step_len, reduced_next a.Q a.P σ.Q₁ σ.P₁ σ.steps_to h)

    pub step_big : m + 1 ≤ len a.Q → far ≤ len a.Q
    step_big h = omega (arith, σ.far_is, big_far a.Q a.P σ.Q₁ σ.P₁ σ.steps_to h)

    pub step_short : m + 1 ≤ len a.Q → len b.Q < far
    step_short h = omega (arith, step_len, σ.far_is, big_short a.Q a.P σ.Q₁ σ.P₁ σ.steps_to h)

    pub step_falls : m + 1 ≤ len a.Q → len b.Q < len a.Q
    step_falls h = elim (dec_le (m + 2) (len a.Q)) [
      | yes g ↦ omega (arith, step_len, big_next a.Q a.P σ.Q₁ σ.P₁ σ.steps_to g)
      | no g ↦ omega (arith, step_len, edge_next a.Q a.P σ.Q₁ σ.P₁ σ.steps_to (omega arith))
    ]

    -- by two while Q is longer than m + 1, so that reducing a product takes at most m / 2 steps
    pub step_falls_2 : m + 2 ≤ len a.Q → len b.Q + 2 ≤ len a.Q
    step_falls_2 h = omega (arith, step_len, big_next a.Q a.P σ.Q₁ σ.P₁ σ.steps_to h)

    pub step_edge : len a.Q ≡ m + 1 → len b.Q ≤ m
    step_edge h = omega (arith, step_len, edge_next a.Q a.P σ.Q₁ σ.P₁ σ.steps_to h)

    pub far_alive : σ.P₁ ⊕ d ≢ 𝟘
    far_alive = elim (dec_le (len a.Q) m) [
      | yes h ↦ pos_len K (σ.P₁ ⊕ d) (omega (arith, reduced_far a.Q a.P σ.Q₁ σ.P₁ σ.steps_to h))
      | no h ↦ big_far_alive a.Q a.P σ.Q₁ σ.P₁ σ.steps_to (omega arith)
    ]

    pub step_to : Sub (order r D) (mk σ.P₁ 𝟙) (I r a) (mk a.Q 𝟘) (I r b)
    step_to ζ h =
        let w = baby-⊆ a.Q a.P σ.Q₁ σ.P₁ σ.steps_to ζ h in
        (w.0, standard-⊆ σ.Q₁ σ.P₁ b σ.standard_to w.0 w.1, w.2)

    pub step_from : Sub (order r D) (mk a.Q 𝟘) (I r b) (mk σ.P₁ 𝟙) (I r a)
    step_from ζ h = baby-⊇ a.Q a.P σ.Q₁ σ.P₁ σ.steps_to ζ (standard-⊇ σ.Q₁ σ.P₁ b σ.standard_to ζ h)
