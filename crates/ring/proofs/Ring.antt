-- Commutative rings: a record of operations with their laws over a carrier type, divisibility, and the first laws that follow.
-- Everything in this crate is written over this record.
use mathlib.Core.Path.{◌≡◌, sym, ◌∙◌, ap, ap₂}

pub record CommRing (C : Type 0) : Type 0 where
  infixl 60 ◌⊕◌
  infixl 70 ◌⊗◌
  infix 80 ⊖◌
  pub 𝟘 : C
  pub 𝟙 : C
  pub ◌⊕◌ : C → C → C
  pub ⊖◌ : C → C
  pub ◌⊗◌ : C → C → C
  pub ⊕-assoc : (a b c : C) → (a ⊕ b) ⊕ c ≡ a ⊕ (b ⊕ c)
  pub ⊕-comm : (a b : C) → a ⊕ b ≡ b ⊕ a
  pub ⊕-zero : (a : C) → a ⊕ 𝟘 ≡ a
  pub ⊕-neg : (a : C) → a ⊕ ⊖ a ≡ 𝟘
  pub ⊗-assoc : (a b c : C) → (a ⊗ b) ⊗ c ≡ a ⊗ (b ⊗ c)
  pub ⊗-comm : (a b : C) → a ⊗ b ≡ b ⊗ a
  pub ⊗-one : (a : C) → a ⊗ 𝟙 ≡ a
  pub ⊗-dist : (a b c : C) → a ⊗ (b ⊕ c) ≡ a ⊗ b ⊕ a ⊗ c

module _ {C : Type 0} (R : CommRing C) where
  infixl 60 ◌⊕◌
  infixl 70 ◌⊗◌
  infix 80 ⊖◌
  open R use {𝟘, 𝟙, ◌⊕◌, ⊖◌, ◌⊗◌, ⊕-assoc, ⊕-comm, ⊕-zero, ⊕-neg, ⊗-assoc, ⊗-comm, ⊗-one, ⊗-dist}

  -- a divides b
  abbrev pub Divides : C → C → Type 0
  Divides a b = (k : C) × (b ≡ k ⊗ a)

  pub zero-⊕ : (a : C) → 𝟘 ⊕ a ≡ a
  zero-⊕ a = ⊕-comm 𝟘 a ∙ ⊕-zero a

  pub ⊕_left_comm : (a b c : C) → a ⊕ (b ⊕ c) ≡ b ⊕ (a ⊕ c)
  ⊕_left_comm a b c = sym (⊕-assoc a b c) ∙ ap (λ x. x ⊕ c) (⊕-comm a b) ∙ ⊕-assoc b a c

  pub ⊗_left_comm : (a b c : C) → a ⊗ (b ⊗ c) ≡ b ⊗ (a ⊗ c)
  ⊗_left_comm a b c = sym (⊗-assoc a b c) ∙ ap (λ x. x ⊗ c) (⊗-comm a b) ∙ ⊗-assoc b a c

  pub one-⊗ : (a : C) → 𝟙 ⊗ a ≡ a
  one-⊗ a = ⊗-comm 𝟙 a ∙ ⊗-one a

  pub dist-⊗ : (a b c : C) → (a ⊕ b) ⊗ c ≡ a ⊗ c ⊕ b ⊗ c
  dist-⊗ a b c = ⊗-comm (a ⊕ b) c ∙ ⊗-dist c a b ∙ ap₂ ◌⊕◌ (⊗-comm c a) (⊗-comm c b)

  pub ⊕-four : (a b c d : C) → (a ⊕ b) ⊕ (c ⊕ d) ≡ (a ⊕ c) ⊕ (b ⊕ d)
  ⊕-four a b c d = ⊕-assoc a b (c ⊕ d) ∙ ap (λ x. a ⊕ x) (⊕_left_comm b c d) ∙ sym (⊕-assoc a c (b ⊕ d))

  pub neg-⊕ : (a : C) → ⊖ a ⊕ a ≡ 𝟘
  neg-⊕ a = ⊕-comm (⊖ a) a ∙ ⊕-neg a

  pub cancel : (a b c : C) → a ⊕ b ≡ a ⊕ c → b ≡ c
  cancel a b c h = sym (back b) ∙ ap (λ x. ⊖ a ⊕ x) h ∙ back c
    where
      back : (x : C) → ⊖ a ⊕ (a ⊕ x) ≡ x
      back x = sym (⊕-assoc (⊖ a) a x) ∙ ap (λ y. y ⊕ x) (neg-⊕ a) ∙ zero-⊕ x

  pub neg_unique : (a b : C) → a ⊕ b ≡ 𝟘 → b ≡ ⊖ a
  neg_unique a b h = cancel a b (⊖ a) (h ∙ sym (⊕-neg a))

  -- 1 divides everything
  pub one_divides : (a : C) → Divides 𝟙 a
  one_divides a = (a, sym (⊗-one a))

  pub ⊗-zero : (a : C) → a ⊗ 𝟘 ≡ 𝟘
  ⊗-zero a = cancel (a ⊗ 𝟘) (a ⊗ 𝟘) 𝟘 (sym (⊗-dist a 𝟘 𝟘) ∙ ap (λ x. a ⊗ x) (⊕-zero 𝟘) ∙ sym (⊕-zero (a ⊗ 𝟘)))

  pub zero-⊗ : (a : C) → 𝟘 ⊗ a ≡ 𝟘
  zero-⊗ a = ⊗-comm 𝟘 a ∙ ⊗-zero a

  pub neg_zero : ⊖ 𝟘 ≡ 𝟘
  neg_zero = sym (zero-⊕ (⊖ 𝟘)) ∙ ⊕-neg 𝟘

  pub neg_neg : (a : C) → ⊖ (⊖ a) ≡ a
  neg_neg a = sym (neg_unique (⊖ a) a (neg-⊕ a))

  pub neg_sum : (a b : C) → ⊖ (a ⊕ b) ≡ ⊖ a ⊕ ⊖ b
  neg_sum a b =
      sym (neg_unique (a ⊕ b) (⊖ a ⊕ ⊖ b) (⊕-four a b (⊖ a) (⊖ b) ∙ ap₂ ◌⊕◌ (⊕-neg a) (⊕-neg b) ∙ ⊕-zero 𝟘))

  pub ⊗-neg : (a b : C) → a ⊗ ⊖ b ≡ ⊖ (a ⊗ b)
  ⊗-neg a b = neg_unique (a ⊗ b) (a ⊗ ⊖ b) (sym (⊗-dist a b (⊖ b)) ∙ ap (λ x. a ⊗ x) (⊕-neg b) ∙ ⊗-zero a)

  pub neg-⊗ : (a b : C) → ⊖ a ⊗ b ≡ ⊖ (a ⊗ b)
  neg-⊗ a b = ⊗-comm (⊖ a) b ∙ ⊗-neg b a ∙ ap ⊖◌ (⊗-comm b a)

  pub sub_self→eq : (a b : C) → a ⊕ ⊖ b ≡ 𝟘 → a ≡ b
  sub_self→eq a b h =
      sym (⊕-zero a) ∙ ap (λ x. a ⊕ x) (sym (neg-⊕ b)) ∙ sym (⊕-assoc a (⊖ b) b) ∙ ap (λ x. x ⊕ b) h ∙ zero-⊕ b
