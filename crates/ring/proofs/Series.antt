-- The ring of power series over a commutative ring: sequences of coefficients, with the convolution for product.
use mathlib.Core.Path.{◌≡◌, refl, sym, ◌∙◌, ap, ap₂, fun_ext}
use mathlib.Core.List.{[], ◌∷◌}
use Prim.Native.Nat.{ℕ, zero, suc}
use Rattle.ring.proofs.Ring.{CommRing, zero-⊗, one-⊗}
use Rattle.ring.proofs.Quote.{quote, auto}

abbrev pub tail : {C : Type 0} → (ℕ → C) → ℕ → C
tail f = λ k. f (suc k)

module _ {C : Type 0} (R : CommRing C) where
  infixl 60 ◌⊕◌
  infixl 70 ◌⊗◌
  infix 80 ⊖◌
  open R use {𝟘, 𝟙, ◌⊕◌, ⊖◌, ◌⊗◌, ⊕-assoc, ⊕-comm, ⊕-zero, ⊕-neg, ⊗-assoc, ⊗-comm, ⊗-one, ⊗-dist}

  unfoldable pub conv : (ℕ → C) → (ℕ → C) → ℕ → C
  conv f g zero = f 0 ⊗ g 0
  conv f g (suc n) = f 0 ⊗ g (suc n) ⊕ conv (tail f) g n

  unfoldable pub unit : ℕ → C
  unit zero = 𝟙
  unit (suc n) = 𝟘

  -- the mirrored recursion: the last term first
  pub conv_mirror : (n : ℕ) (f g : ℕ → C) → conv f g (suc n) ≡ conv f (tail g) n ⊕ f (suc n) ⊗ g 0
  unfolding conv
  conv_mirror zero f g = refl
  conv_mirror (suc n) f g = ap (λ x. f 0 ⊗ g (suc (suc n)) ⊕ x) (conv_mirror n (tail f) g) ∙ sym (⊕-assoc _ _ _)

  pub conv_comm : (n : ℕ) (f g : ℕ → C) → conv f g n ≡ conv g f n
  unfolding conv
  conv_comm zero f g = ⊗-comm (f 0) (g 0)
  conv_comm (suc n) f g =
      ap₂ ◌⊕◌ (⊗-comm (f 0) (g (suc n))) (conv_comm n (tail f) g) ∙ ⊕-comm _ _ ∙ sym (conv_mirror n g f)

  -- linear in the first argument
  pub conv_lin : (n : ℕ) (c : C) (f e g : ℕ → C) → conv (λ k. c ⊗ f k ⊕ e k) g n ≡ c ⊗ conv f g n ⊕ conv e g n
  unfolding conv
  conv_lin zero c f e g = auto R (c ∷ f 0 ∷ e 0 ∷ g 0 ∷ []) (search quote depth 20) tt
  conv_lin (suc n) c f e g =
      ap (λ x. (c ⊗ f 0 ⊕ e 0) ⊗ g (suc n) ⊕ x) (conv_lin n c (tail f) (tail e) g)
      ∙ auto R (c ∷ f 0 ∷ e 0 ∷ g (suc n) ∷ conv (tail f) g n ∷ conv (tail e) g n ∷ []) (search quote depth 20) tt

  pub conv_assoc : (n : ℕ) (f g h : ℕ → C) → conv (conv f g) h n ≡ conv f (conv g h) n
  unfolding conv
  conv_assoc zero f g h = ⊗-assoc (f 0) (g 0) (h 0)
  conv_assoc (suc n) f g h =
      ap (λ x. f 0 ⊗ g 0 ⊗ h (suc n) ⊕ x) (conv_lin n (f 0) (tail g) (conv (tail f) g) h)
      ∙ ap (λ x. f 0 ⊗ g 0 ⊗ h (suc n) ⊕ (f 0 ⊗ conv (tail g) h n ⊕ x)) (conv_assoc n (tail f) g h)
      ∙ auto R (f 0 ∷ g 0 ∷ h (suc n) ∷ conv (tail g) h n ∷ conv (tail f) (conv g h) n ∷ []) (search quote depth 20) tt

  pub conv_dist : (n : ℕ) (f g h : ℕ → C) → conv f (λ k. g k ⊕ h k) n ≡ conv f g n ⊕ conv f h n
  unfolding conv
  conv_dist zero f g h = ⊗-dist (f 0) (g 0) (h 0)
  conv_dist (suc n) f g h =
      ap (λ x. f 0 ⊗ (g (suc n) ⊕ h (suc n)) ⊕ x) (conv_dist n (tail f) g h)
      ∙ auto R (f 0 ∷ g (suc n) ∷ h (suc n) ∷ conv (tail f) g n ∷ conv (tail f) h n ∷ []) (search quote depth 20) tt

  pub conv_zero : (n : ℕ) (g : ℕ → C) → conv (λ _. 𝟘) g n ≡ 𝟘
  unfolding conv
  conv_zero zero g = zero-⊗ R (g 0)
  conv_zero (suc n) g = ap₂ ◌⊕◌ (zero-⊗ R (g (suc n))) (conv_zero n g) ∙ ⊕-zero 𝟘

  pub conv_unit : (n : ℕ) (g : ℕ → C) → conv unit g n ≡ g n
  unfolding conv unit
  conv_unit zero g = one-⊗ R (g 0)
  conv_unit (suc n) g = ap₂ ◌⊕◌ (one-⊗ R (g (suc n))) (conv_zero n g) ∙ ⊕-zero _

  unfoldable pub Series : CommRing (ℕ → C)
  Series = record {
    𝟘 = λ n. 𝟘;
    𝟙 = unit;
    ◌⊕◌ = λ f g n. f n ⊕ g n;
    ⊖◌ = λ f n. ⊖ f n;
    ◌⊗◌ = conv;
    ⊕-assoc = λ f g h. fun_ext (λ n. ⊕-assoc (f n) (g n) (h n));
    ⊕-comm = λ f g. fun_ext (λ n. ⊕-comm (f n) (g n));
    ⊕-zero = λ f. fun_ext (λ n. ⊕-zero (f n));
    ⊕-neg = λ f. fun_ext (λ n. ⊕-neg (f n));
    ⊗-assoc = λ f g h. fun_ext (λ n. conv_assoc n f g h);
    ⊗-comm = λ f g. fun_ext (λ n. conv_comm n f g);
    ⊗-one = λ f. fun_ext (λ n. conv_comm n f unit ∙ conv_unit n f);
    ⊗-dist = λ f g h. fun_ext (λ n. conv_dist n f g h);
  }
