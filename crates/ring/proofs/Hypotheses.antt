-- Equations from equations: x ≡ y follows from a ≡ b if x − y = k (a − b) is an identity of the ring, which the solver shows.
-- So every step of the theory is a choice of factors k and a call of the solver.
use mathlib.Core.Path.{◌≡◌, ◌∙◌, ap, ap₂}
use Rattle.ring.proofs.Ring.{CommRing, ⊗-zero, sub_self→eq}

module _ {C : Type 0} (R : CommRing C) where
  infixl 60 ◌⊕◌ ◌⊝◌
  infixl 70 ◌⊗◌
  infix 80 ⊖◌
  open R use {𝟘, 𝟙, ◌⊕◌, ⊖◌, ◌⊗◌, ⊕-zero, ⊕-neg}

  abbrev pub ◌⊝◌ : C → C → C
  a ⊝ b = a ⊕ ⊖ b

  -- a multiple of a difference that is 0
  pub gone : (k : C) {a b : C} → a ≡ b → k ⊗ (a ⊝ b) ≡ 𝟘
  gone k {b = b} h = ap (λ x. k ⊗ (x ⊝ b)) h ∙ ap (λ x. k ⊗ x) (⊕-neg b) ∙ ⊗-zero R k

  pub by_hyp : (k : C) {a b : C} (h : a ≡ b) {x y : C} → x ⊝ y ≡ k ⊗ (a ⊝ b) → x ≡ y
  by_hyp k h {x = x} {y = y} p = sub_self→eq R x y (p ∙ gone k h)

  pub by_hyp₂ : (k : C) {a b : C} (h : a ≡ b) (l : C) {c d : C} (g : c ≡ d) {x y : C} → x ⊝ y ≡ k ⊗ (a ⊝ b) ⊕ l ⊗ (c ⊝ d) → x ≡ y
  by_hyp₂ k h l g {x = x} {y = y} p = sub_self→eq R x y (p ∙ ap₂ ◌⊕◌ (gone k h) (gone l g) ∙ ⊕-zero 𝟘)

  pub by_hyp₃ : (k : C) {a b : C} (h : a ≡ b) (l : C) {c d : C} (g : c ≡ d) (m : C) {e f : C} (q : e ≡ f) {x y : C}
      → x ⊝ y ≡ k ⊗ (a ⊝ b) ⊕ l ⊗ (c ⊝ d) ⊕ m ⊗ (e ⊝ f) → x ≡ y
  by_hyp₃ k h l g m q {x = x} {y = y} p =
      sub_self→eq R x y (p ∙ ap₂ ◌⊕◌ (ap₂ ◌⊕◌ (gone k h) (gone l g) ∙ ⊕-zero 𝟘) (gone m q) ∙ ⊕-zero 𝟘)

-- any number of hypotheses: `by_null (null R k h ⊞ null R l g ⊞ ..) (auto ..)`; the type names R whole, so that `◌⊞◌` can leave it out
infixl 60 ◌⊞◌
pub data Null {C : Type 0} (R : CommRing C) : C → Type 0 where
  is_null : {z : C} → z ≡ R.𝟘 → Null R z

pub null : {C : Type 0} (R : CommRing C) (k : C) {a b : C} → a ≡ b → Null R (R.◌⊗◌ k (R.◌⊕◌ a (R.⊖◌ b)))
null R k h = is_null (gone R k h)

pub ◌⊞◌ : {C : Type 0} {R : CommRing C} {a b : C} → Null R a → Null R b → Null R (R.◌⊕◌ a b)
◌⊞◌ {R = R} (is_null p) (is_null q) = is_null (ap₂ R.◌⊕◌ p q ∙ R.⊕-zero R.𝟘)

pub by_null : {C : Type 0} {R : CommRing C} {z : C} → Null R z → {x y : C} → R.◌⊕◌ x (R.⊖◌ y) ≡ z → x ≡ y
by_null {R = R} (is_null q) {x = x} {y = y} p = sub_self→eq R x y (p ∙ q)
