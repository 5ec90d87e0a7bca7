-- A reflective solver of equations in a commutative ring.
-- An expression is normalised to a dense recursive polynomial (Horner form) whose coefficients are differences `a − b` of native numbers;
-- two expressions are equal in every ring if the normal form of their difference has only zero coefficients, which is a test that computes.
use mathlib.Core.Path.{◌≡◌, refl, sym, ◌∙◌, ap, ap₂}
use mathlib.Core.Bool.{Bool, true, false}
use mathlib.Core.List.{List, [], ◌∷◌}
use Prim.Native.Nat.{ℕ, zero, suc, ◌+◌, ◌*◌}
use native.Mathlib.Nat.{add-zero, add-suc, mul-zero, mul-suc}
use lib.Dec.{T, eqb, eqb→eq}
use Rattle.ring.proofs.Ring.{CommRing, zero-⊕, ⊕_left_comm, ⊗_left_comm, dist-⊗, ⊕-four, ⊗-zero, zero-⊗, neg_zero, neg_neg, neg_sum, ⊗-neg, neg-⊗, sub_self→eq}

-- polynomials: `con a b` is the constant a − b; `node p q` is p + x · q, where x is the first variable, and p has only the later ones
pub data H : Type 0 where
  con : ℕ → ℕ → H
  node : H → H → H

abbrev pub add_c : ℕ → ℕ → H → H
add_c a b (con c d) = con (a + c) (b + d)
add_c a b (node p q) = node (add_c a b p) q

abbrev pub add_h : H → H → H
add_h (con a b) r = add_c a b r
add_h (node p q) (con c d) = node (add_c c d p) q
add_h (node p q) (node r s) = node (add_h p r) (add_h q s)

abbrev pub neg_h : H → H
neg_h (con a b) = con b a
neg_h (node p q) = node (neg_h p) (neg_h q)

abbrev pub mul_c : ℕ → ℕ → H → H
mul_c a b (con c d) = con (a * c + b * d) (a * d + b * c)
mul_c a b (node p q) = node (mul_c a b p) (mul_c a b q)

-- a zero constant ends the product at once
abbrev pub mul_c? : Bool → ℕ → ℕ → H → H
mul_c? true a b r = con 0 0
mul_c? false a b r = mul_c a b r

-- f, the product with a polynomial of the later variables, goes under each coefficient
abbrev pub low : (H → H) → H → H
low f (con c d) = node (f (con c d)) (con 0 0)
low f (node p q) = node (f p) (low f q)

abbrev pub mul_h : H → H → H
mul_h (con a b) r = mul_c? (eqb a b) a b r
mul_h (node p q) r = add_h (low (λ s. mul_h p s) r) (node (con 0 0) (mul_h q r))

abbrev pub var_h : ℕ → H
var_h zero = node (con 0 0) (con 1 0)
var_h (suc i) = node (var_h i) (con 0 0)

abbrev pub and : Bool → Bool → Bool
and true c = c
and false c = false

abbrev pub is_z : H → Bool
is_z (con a b) = eqb a b
is_z (node p q) = and (is_z p) (is_z q)

-- expressions
infixl 60 ◌:+◌ ◌:-◌
infixl 70 ◌:*◌
infix 80 :-◌
pub data Expr : Type 0 where
  var : ℕ → Expr
  lit : ℕ → Expr
  ◌:+◌ : Expr → Expr → Expr
  ◌:-◌ : Expr → Expr → Expr
  ◌:*◌ : Expr → Expr → Expr
  :-◌ : Expr → Expr

abbrev pub nf : Expr → H
nf (var i) = var_h i
nf (lit n) = con n 0
nf (a :+ b) = add_h (nf a) (nf b)
nf (a :- b) = add_h (nf a) (neg_h (nf b))
nf (a :* b) = mul_h (nf a) (nf b)
nf (:- a) = neg_h (nf a)

and_l : (b c : Bool) → T (and b c) → T b
and_l true c t = tt
and_l false c t = t

and_r : (b c : Bool) → T (and b c) → T c
and_r true c t = t
and_r false c t = absurd t

module _ {C : Type 0} (R : CommRing C) where
  infixl 60 ◌⊕◌
  infixl 70 ◌⊗◌
  infix 80 ⊖◌
  open R use {𝟘, 𝟙, ◌⊕◌, ⊖◌, ◌⊗◌, ⊕-assoc, ⊕-comm, ⊕-zero, ⊕-neg, ⊗-assoc, ⊗-comm, ⊗-one, ⊗-dist}

  -- the number n in the ring: 0, 1, 1 + 1, ..
  abbrev pub num : ℕ → C
  num zero = 𝟘
  num (suc zero) = 𝟙
  num (suc (suc n)) = num (suc n) ⊕ 𝟙

  pub num_suc : (n : ℕ) → num (suc n) ≡ num n ⊕ 𝟙
  num_suc zero = sym (zero-⊕ R 𝟙)
  num_suc (suc n) = refl

  pub num-+ : (m n : ℕ) → num (m + n) ≡ num m ⊕ num n
  num-+ m zero = ap num (add-zero m) ∙ sym (⊕-zero (num m))
  num-+ m (suc n) =
      ap num (add-suc m n) ∙ num_suc (m + n) ∙ ap (λ x. x ⊕ 𝟙) (num-+ m n) ∙ ⊕-assoc (num m) (num n) 𝟙
      ∙ ap (λ x. num m ⊕ x) (sym (num_suc n))

  pub num-* : (m n : ℕ) → num (m * n) ≡ num m ⊗ num n
  num-* m zero = ap num (mul-zero m) ∙ sym (⊗-zero R (num m))
  num-* m (suc n) =
      ap num (mul-suc m n) ∙ num-+ (m * n) m ∙ ap₂ ◌⊕◌ (num-* m n) (sym (⊗-one (num m)))
      ∙ sym (⊗-dist (num m) (num n) 𝟙) ∙ ap (λ x. num m ⊗ x) (sym (num_suc n))

  abbrev pub ev_h : (ℕ → C) → H → C
  ev_h ρ (con a b) = num a ⊕ ⊖ num b
  ev_h ρ (node p q) = ev_h (λ i. ρ (suc i)) p ⊕ ρ 0 ⊗ ev_h ρ q

  abbrev pub ev : (ℕ → C) → Expr → C
  ev ρ (var i) = ρ i
  ev ρ (lit n) = num n
  ev ρ (a :+ b) = ev ρ a ⊕ ev ρ b
  ev ρ (a :- b) = ev ρ a ⊕ ⊖ ev ρ b
  ev ρ (a :* b) = ev ρ a ⊗ ev ρ b
  ev ρ (:- a) = ⊖ ev ρ a

  -- differences
  diff-+ : (a b c d : C) → (a ⊕ c) ⊕ ⊖ (b ⊕ d) ≡ (a ⊕ ⊖ b) ⊕ (c ⊕ ⊖ d)
  diff-+ a b c d = ap (λ x. (a ⊕ c) ⊕ x) (neg_sum R b d) ∙ ⊕-four R a c (⊖ b) (⊖ d)

  diff-* : (a b c d : C) → (a ⊗ c ⊕ b ⊗ d) ⊕ ⊖ (a ⊗ d ⊕ b ⊗ c) ≡ (a ⊕ ⊖ b) ⊗ (c ⊕ ⊖ d)
  diff-* a b c d = simp (⊗-dist, dist-⊗ R, neg-⊗ R, ⊗-neg R, neg_sum R, neg_neg R, ⊕-assoc, ⊕_left_comm R, ⊕-comm)

  diff_neg : (a b : C) → b ⊕ ⊖ a ≡ ⊖ (a ⊕ ⊖ b)
  diff_neg a b = ⊕-comm b (⊖ a) ∙ ap (λ x. ⊖ a ⊕ x) (sym (neg_neg R b)) ∙ sym (neg_sum R a (⊖ b))

  con_zero : (a b : ℕ) → T (eqb a b) → num a ⊕ ⊖ num b ≡ 𝟘
  con_zero a b t = ap (λ n. num n ⊕ ⊖ num b) (eqb→eq a b t) ∙ ⊕-neg (num b)

  zero_con : num 0 ⊕ ⊖ num 0 ≡ 𝟘
  zero_con = ⊕-neg 𝟘

  add_c_ev : (ρ : ℕ → C) (a b : ℕ) (r : H) → ev_h ρ (add_c a b r) ≡ (num a ⊕ ⊖ num b) ⊕ ev_h ρ r
  add_c_ev ρ a b (con c d) = ap₂ (λ x y. x ⊕ ⊖ y) (num-+ a c) (num-+ b d) ∙ diff-+ (num a) (num b) (num c) (num d)
  add_c_ev ρ a b (node p q) = ap (λ x. x ⊕ ρ 0 ⊗ ev_h ρ q) (add_c_ev (λ i. ρ (suc i)) a b p) ∙ ⊕-assoc _ _ _

  add_h_ev : (ρ : ℕ → C) (p r : H) → ev_h ρ (add_h p r) ≡ ev_h ρ p ⊕ ev_h ρ r
  add_h_ev ρ (con a b) r = add_c_ev ρ a b r
  add_h_ev ρ (node p q) (con c d) =
      ap (λ x. x ⊕ ρ 0 ⊗ ev_h ρ q) (add_c_ev (λ i. ρ (suc i)) c d p ∙ ⊕-comm _ _) ∙ ⊕-assoc _ _ _
      ∙ ap (λ x. ev_h (λ i. ρ (suc i)) p ⊕ x) (⊕-comm _ _) ∙ sym (⊕-assoc _ _ _)
  add_h_ev ρ (node p q) (node r s) =
      ap₂ (λ x y. x ⊕ ρ 0 ⊗ y) (add_h_ev (λ i. ρ (suc i)) p r) (add_h_ev ρ q s)
      ∙ ap (λ x. (ev_h (λ i. ρ (suc i)) p ⊕ ev_h (λ i. ρ (suc i)) r) ⊕ x) (⊗-dist _ _ _)
      ∙ ⊕-four R _ _ _ _

  neg_h_ev : (ρ : ℕ → C) (p : H) → ev_h ρ (neg_h p) ≡ ⊖ ev_h ρ p
  neg_h_ev ρ (con a b) = diff_neg (num a) (num b)
  neg_h_ev ρ (node p q) =
      ap₂ (λ x y. x ⊕ ρ 0 ⊗ y) (neg_h_ev (λ i. ρ (suc i)) p) (neg_h_ev ρ q)
      ∙ ap (λ x. ⊖ ev_h (λ i. ρ (suc i)) p ⊕ x) (⊗-neg R _ _) ∙ sym (neg_sum R _ _)

  mul_c_ev : (ρ : ℕ → C) (a b : ℕ) (r : H) → ev_h ρ (mul_c a b r) ≡ (num a ⊕ ⊖ num b) ⊗ ev_h ρ r
  mul_c_ev ρ a b (con c d) =
      ap₂ (λ x y. x ⊕ ⊖ y) (num-+ (a * c) (b * d) ∙ ap₂ ◌⊕◌ (num-* a c) (num-* b d)) (num-+ (a * d) (b * c) ∙ ap₂ ◌⊕◌ (num-* a d) (num-* b c))
      ∙ diff-* (num a) (num b) (num c) (num d)
  mul_c_ev ρ a b (node p q) =
      ap₂ (λ x y. x ⊕ ρ 0 ⊗ y) (mul_c_ev (λ i. ρ (suc i)) a b p) (mul_c_ev ρ a b q)
      ∙ ap (λ x. (num a ⊕ ⊖ num b) ⊗ ev_h (λ i. ρ (suc i)) p ⊕ x) (⊗_left_comm R _ _ _) ∙ sym (⊗-dist _ _ _)

  mul_c?_ev : (t : Bool) (ρ : ℕ → C) (a b : ℕ) (r : H) → (T t → T (eqb a b)) → ev_h ρ (mul_c? t a b r) ≡ (num a ⊕ ⊖ num b) ⊗ ev_h ρ r
  mul_c?_ev true ρ a b r h = zero_con ∙ sym (zero-⊗ R (ev_h ρ r)) ∙ ap (λ x. x ⊗ ev_h ρ r) (sym (con_zero a b (h tt)))
  mul_c?_ev false ρ a b r h = mul_c_ev ρ a b r

  low_ev : (ρ : ℕ → C) (c : C) (f : H → H) → ((s : H) → ev_h (λ i. ρ (suc i)) (f s) ≡ c ⊗ ev_h (λ i. ρ (suc i)) s) → (r : H) → ev_h ρ (low f r) ≡ c ⊗ ev_h ρ r
  low_ev ρ c f h (con a b) =
      ap₂ (λ x y. x ⊕ ρ 0 ⊗ y) (h (con a b)) zero_con ∙ ap (λ x. c ⊗ (num a ⊕ ⊖ num b) ⊕ x) (⊗-zero R _) ∙ ⊕-zero _
  low_ev ρ c f h (node p q) =
      ap₂ (λ x y. x ⊕ ρ 0 ⊗ y) (h p) (low_ev ρ c f h q)
      ∙ ap (λ x. c ⊗ ev_h (λ i. ρ (suc i)) p ⊕ x) (⊗_left_comm R _ _ _) ∙ sym (⊗-dist _ _ _)

  mul_h_ev : (p : H) (ρ : ℕ → C) (r : H) → ev_h ρ (mul_h p r) ≡ ev_h ρ p ⊗ ev_h ρ r
  mul_h_ev (con a b) ρ r = mul_c?_ev (eqb a b) ρ a b r (λ t. t)
  mul_h_ev (node p q) ρ r =
      add_h_ev ρ (low (λ s. mul_h p s) r) (node (con 0 0) (mul_h q r))
      ∙ ap₂ ◌⊕◌ (low_ev ρ _ (λ s. mul_h p s) (mul_h_ev p (λ i. ρ (suc i))) r)
      (ap₂ (λ x y. x ⊕ ρ 0 ⊗ y) zero_con (mul_h_ev q ρ r) ∙ zero-⊕ R _ ∙ sym (⊗-assoc _ _ _))
      ∙ sym (dist-⊗ R _ _ _)

  var_h_ev : (i : ℕ) (ρ : ℕ → C) → ev_h ρ (var_h i) ≡ ρ i
  var_h_ev zero ρ =
      ap₂ (λ x y. x ⊕ ρ 0 ⊗ y) zero_con (ap (λ x. 𝟙 ⊕ x) (neg_zero R) ∙ ⊕-zero 𝟙) ∙ zero-⊕ R _ ∙ ⊗-one _
  var_h_ev (suc i) ρ =
      ap₂ (λ x y. x ⊕ ρ 0 ⊗ y) (var_h_ev i (λ j. ρ (suc j))) zero_con ∙ ap (λ x. ρ (suc i) ⊕ x) (⊗-zero R _) ∙ ⊕-zero _

  pub sound : (ρ : ℕ → C) (e : Expr) → ev_h ρ (nf e) ≡ ev ρ e
  sound ρ (var i) = var_h_ev i ρ
  sound ρ (lit n) = ap (λ x. num n ⊕ x) (neg_zero R) ∙ ⊕-zero _
  sound ρ (a :+ b) = add_h_ev ρ (nf a) (nf b) ∙ ap₂ ◌⊕◌ (sound ρ a) (sound ρ b)
  sound ρ (a :- b) =
      add_h_ev ρ (nf a) (neg_h (nf b)) ∙ ap₂ ◌⊕◌ (sound ρ a) (neg_h_ev ρ (nf b) ∙ ap ⊖◌ (sound ρ b))
  sound ρ (a :* b) = mul_h_ev (nf a) ρ (nf b) ∙ ap₂ ◌⊗◌ (sound ρ a) (sound ρ b)
  sound ρ (:- a) = neg_h_ev ρ (nf a) ∙ ap ⊖◌ (sound ρ a)

  is_z_ev : (h : H) (ρ : ℕ → C) → T (is_z h) → ev_h ρ h ≡ 𝟘
  is_z_ev (con a b) ρ t = con_zero a b t
  is_z_ev (node p q) ρ t =
      ap₂ (λ x y. x ⊕ ρ 0 ⊗ y) (is_z_ev p (λ i. ρ (suc i)) (and_l (is_z p) (is_z q) t)) (is_z_ev q ρ (and_r (is_z p) (is_z q) t))
      ∙ ap (λ x. 𝟘 ⊕ x) (⊗-zero R _) ∙ ⊕-zero 𝟘

  pub solve : (ρ : ℕ → C) (a b : Expr) → T (is_z (nf (a :- b))) → ev ρ a ≡ ev ρ b
  solve ρ a b t = sub_self→eq R (ev ρ a) (ev ρ b) (sym (sound ρ (a :- b)) ∙ is_z_ev (nf (a :- b)) ρ t)

  -- the values of the variables; past the list, 0
  abbrev pub at : List C → ℕ → C
  at [] i = 𝟘
  at (a ∷ xs) zero = a
  at (a ∷ xs) (suc i) = at xs i
