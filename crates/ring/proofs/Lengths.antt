-- Over any PolyRing: lengths of sums and products, and what follows from them: no zero divisors, cancelling, units, the half.
use mathlib.Core.Path.{◌≡◌, sym, ◌∙◌, ap, ap₂, subst}
use mathlib.Core.List.{[], ◌∷◌}
use mathlib.Core.Logic.{◌≢◌}
use Prim.Native.Nat.{ℕ, pred, ◌+◌, ◌-◌, ◌≤◌, ◌<◌}
use native.Mathlib.Omega.{arith}
use native.Mathlib.Decide.{dec_le}
use Rattle.ring.proofs.Ring.{CommRing, ⊗-zero, zero-⊗, sub_self→eq}
use Rattle.ring.proofs.Quote.{quote, auto}
use Rattle.ring.proofs.Hypotheses.{by_hyp}
use Rattle.ring.proofs.PolyRing.{PolyRing}

-- cancelling in a ring without zero divisors in which 0 is decidable
pub cancel-⊗ : {C : Type 0} (R : CommRing C) (zero? : (a : C) → Dec (a ≡ R.𝟘))
    (domain : (a b : C) → a ≢ R.𝟘 → b ≢ R.𝟘 → R.◌⊗◌ a b ≢ R.𝟘)
    (a x y : C) → a ≢ R.𝟘 → R.◌⊗◌ a x ≡ R.◌⊗◌ a y → x ≡ y
cancel-⊗ R zero? domain a x y ne h = elim (zero? (R.◌⊕◌ x (R.⊖◌ y))) [
  | yes e ↦ sub_self→eq R x y e
  | no n ↦ absurd (domain a (R.◌⊕◌ x (R.⊖◌ y)) ne n (by_hyp R R.𝟙 h (auto R (a ∷ x ∷ y ∷ []) (search quote depth 20) tt)))
]

module _ {C R : Type 0} (K : PolyRing C R) where
  infixl 60 ◌⊕◌
  infixl 70 ◌⊗◌
  infix 80 ⊖◌
  open K use {r, k, len, coef, zero?}
  open r use {𝟘, 𝟙, ◌⊕◌, ⊖◌, ◌⊗◌, ⊕-zero}

  pub len_pos : (p : R) → p ≢ 𝟘 → 1 ≤ len p
  len_pos p h = elim (dec_le 1 (len p)) [ yes g ↦ g | no g ↦ absurd (h (K.zero_len p (omega arith))) ]

  pub empty : (p : R) → p ≡ 𝟘 → len p ≡ 0
  empty p e = ap len e ∙ K.len_zero

  pub pos_len : (p : R) → 1 ≤ len p → p ≢ 𝟘
  pos_len p h e = omega (arith, empty p e)

  pub domain : (p q : R) → p ≢ 𝟘 → q ≢ 𝟘 → p ⊗ q ≢ 𝟘
  domain p q hp hq = pos_len (p ⊗ q) (omega (arith, K.len_mul p q hp hq, len_pos p hp, len_pos q hq))

  pub cancel_zero : (p q : R) → p ≢ 𝟘 → p ⊗ q ≡ 𝟘 → q ≡ 𝟘
  cancel_zero p q hp e = elim (zero? q) [ yes g ↦ g | no g ↦ absurd (domain p q hp g e) ]

  pub ⊗-cancel : (s p q : R) → s ≢ 𝟘 → s ⊗ p ≡ s ⊗ q → p ≡ q
  ⊗-cancel = cancel-⊗ r zero? domain

  -- a factor of what is not 0
  pub left_alive : (p q : R) → p ⊗ q ≢ 𝟘 → p ≢ 𝟘
  left_alive p q h e = h (ap (λ x. x ⊗ q) e ∙ zero-⊗ r q)

  pub right_alive : (p q : R) → p ⊗ q ≢ 𝟘 → q ≢ 𝟘
  right_alive p q h e = h (ap (λ x. p ⊗ x) e ∙ ⊗-zero r p)

  pub alive_one : 𝟙 ≢ 𝟘
  alive_one = pos_len 𝟙 (omega (arith, K.len_one))

  -- a product is no longer than its factors allow
  pub len_mul_≤ : (p q : R) (n : ℕ) → len p + len q ≤ n + 1 → len (p ⊗ q) ≤ n
  len_mul_≤ p q n h = elim (zero? p) [
    | yes e ↦ omega (arith, empty (p ⊗ q) (ap (λ x. x ⊗ q) e ∙ zero-⊗ r q))
    | no np ↦ elim (zero? q) [
      | yes e ↦ omega (arith, empty (p ⊗ q) (ap (λ x. p ⊗ x) e ∙ ⊗-zero r p))
      | no nq ↦ omega (arith, K.len_mul p q np nq)
    ]
  ]

  pub len_sub : (p q : R) (n : ℕ) → len p ≤ n → len q ≤ n → len (p ⊕ ⊖ q) ≤ n
  len_sub p q n hp hq = K.len_add p (⊖ q) n hp (omega (arith, K.len_neg q))

  -- the longer summand decides
  pub longer : (p q : R) → len q < len p → len (p ⊕ q) ≡ len p
  longer p q h = elim (dec_le (len p) (len (p ⊕ q))) [
    | yes g ↦ omega (arith, K.len_add p q (len p) (omega arith) (omega arith))
    | no g ↦
        let back : len p ≤ pred (len p) =
        subst (λ x. len x ≤ pred (len p)) (auto r (p ∷ q ∷ []) (search quote depth 20) tt)
        (len_sub (p ⊕ q) q (pred (len p)) (omega arith) (omega arith))
        in omega arith
  ]

  -- 2 ≠ 0
  pub twice : (p : R) → len (p ⊕ p) ≡ len p
  twice p = elim (zero? p) [
    | yes e ↦ ap len (ap₂ ◌⊕◌ e e ∙ ⊕-zero 𝟘 ∙ sym e)
    | no h ↦ elim (dec_le (len p) (len (p ⊕ p))) [
      | yes g ↦ omega (arith, K.len_add p p (len p) (omega arith) (omega arith))
      | no g ↦
          let n : ℕ = pred (len p) in
          let c : C = coef p n in
          let top : len p ≡ n + 1 = omega (arith, len_pos p h) in
          let gone : coef (p ⊕ p) n ≡ k.𝟘 = K.coef_past (p ⊕ p) n (omega arith) in
          absurd (K.c_domain (k.◌⊕◌ k.𝟙 k.𝟙) c K.c_two (K.coef_top p n top)
          (auto k (c ∷ []) (search quote depth 20) tt ∙ sym (K.coef_add p p n) ∙ gone))
    ]
  ]

  -- the length of 2 p − q where p is longer
  pub len_twice : (p q : R) → len q < len p → len (p ⊕ p ⊕ ⊖ q) ≡ len p
  len_twice p q h =
      let t = twice p in
      let e = K.len_neg q in
      longer (p ⊕ p) (⊖ q) (omega arith) ∙ t

  pub half : (h : R) × (h ⊕ h ≡ 𝟙)
  half = let e = K.unit (𝟙 ⊕ 𝟙) (twice 𝟙 ∙ K.len_one) in (e.0, by_hyp r 𝟙 e.1 (auto r (e.0 ∷ []) (search quote depth 20) tt))

  -- the top coefficients cancel
  pub top_cancel : (p q : R) (n : ℕ) → len p ≤ n + 1 → len q ≤ n + 1 → coef p n ≡ coef q n → len (p ⊕ ⊖ q) ≤ n
  top_cancel p q n hp hq e = elim (dec_le (len (p ⊕ ⊖ q)) n) [
    | yes h ↦ h
    | no h ↦ absurd (K.coef_top (p ⊕ ⊖ q) n (omega (arith, len_sub p q (n + 1) hp hq))
        (K.coef_add p (⊖ q) n ∙ ap₂ k.◌⊕◌ e (K.coef_neg q n) ∙ k.⊕-neg (coef q n)))
  ]

  -- a unit has length 1, and keeps lengths
  pub unit_len : (c e : R) → c ⊗ e ≡ 𝟙 → len c ≡ 1
  unit_len c e h =
      let both : c ⊗ e ≢ 𝟘 = λ z. alive_one (sym h ∙ z) in
      let a = left_alive c e both in
      let b = right_alive c e both in
      omega (arith, K.len_mul c e a b, ap len h, K.len_one, len_pos c a, len_pos e b)

  pub scale_len : (c e q : R) → c ⊗ e ≡ 𝟙 → q ≢ 𝟘 → len (c ⊗ q) ≡ len q
  scale_len c e q h z =
      let i = unit_len c e h in
      let l = K.len_mul c q (pos_len c (omega arith)) z in
      omega arith

  -- the leading terms of P P' + X and Q Q' + X where P and P' are the longer ones and X is short
  pub lead : (P Q P' Q' X : R) → 1 ≤ len P → 1 ≤ len P' → len Q ≤ len P → len Q' ≤ len P' → len X + 2 ≤ len P + len P'
      → (len (P ⊗ P' ⊕ X) + 1 ≡ len P + len P') × (len (Q ⊗ Q' ⊕ X) ≤ len (P ⊗ P' ⊕ X))
  lead P Q P' Q' X n_p nP' hQ hQ' hX =
      let a : len (P ⊗ P') + 1 ≡ len P + len P' = K.len_mul P P' (pos_len P n_p) (pos_len P' nP') in
      let b : len (P ⊗ P' ⊕ X) ≡ len (P ⊗ P') = longer (P ⊗ P') X (omega arith) in
      let e : len (Q ⊗ Q') ≤ len P + len P' - 1 = len_mul_≤ Q Q' (len P + len P' - 1) (omega arith) in
      let f : len (Q ⊗ Q' ⊕ X) ≤ len (P ⊗ P') = K.len_add (Q ⊗ Q') X (len (P ⊗ P')) (omega arith) (omega arith) in
      (omega arith, omega arith)
