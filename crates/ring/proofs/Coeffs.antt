-- Lists of coefficients, low degree first: their sequences, sums and products, and lists with no zero at the end.
use mathlib.Core.Path.{◌≡◌, refl, sym, ◌∙◌, ap₂, subst}
use mathlib.Core.Logic.{◌≢◌}
use mathlib.Core.HLevel.{¬_prop, Unit-prop}
use mathlib.Core.List.{List, [], ◌∷◌}
use Prim.Native.Nat.{ℕ, zero, suc, ◌+◌, ◌≤◌, zero-le, suc-le-suc}
use native.Mathlib.Omega.{arith}
use lib.ListN.{length, get_or}
use Rattle.ring.proofs.Ring.{CommRing, zero-⊕, ⊗-zero, neg_zero}
use Rattle.ring.proofs.Series.{conv, conv_zero}

module _ {C : Type 0} (R : CommRing C) where
  infixl 60 ◌⊕◌
  infixl 70 ◌⊗◌
  infix 80 ⊖◌
  open R use {𝟘, ◌⊕◌, ⊖◌, ◌⊗◌, ⊕-zero}

  abbrev pub seq : List C → ℕ → C
  seq l n = get_or l n 𝟘

  unfoldable pub add_l : List C → List C → List C
  add_l [] m = m
  add_l (a ∷ l) [] = a ∷ l
  add_l (a ∷ l) (b ∷ m) = (a ⊕ b) ∷ add_l l m

  unfoldable pub neg_l : List C → List C
  neg_l [] = []
  neg_l (a ∷ l) = (⊖ a) ∷ neg_l l

  unfoldable pub scale_l : C → List C → List C
  scale_l c [] = []
  scale_l c (a ∷ l) = (c ⊗ a) ∷ scale_l c l

  unfoldable pub mul_l : List C → List C → List C
  mul_l [] m = []
  mul_l (a ∷ l) m = add_l (scale_l a m) (𝟘 ∷ mul_l l m)

  pub seq_add : (l m : List C) (n : ℕ) → seq (add_l l m) n ≡ seq l n ⊕ seq m n
  unfolding add_l
  seq_add [] m n = sym (zero-⊕ R (seq m n))
  seq_add (a ∷ l) [] n = sym (⊕-zero (seq (a ∷ l) n))
  seq_add (a ∷ l) (b ∷ m) zero = refl
  seq_add (a ∷ l) (b ∷ m) (suc n) = seq_add l m n

  pub seq_neg : (l : List C) (n : ℕ) → seq (neg_l l) n ≡ ⊖ seq l n
  unfolding neg_l
  seq_neg [] n = sym (neg_zero R)
  seq_neg (a ∷ l) zero = refl
  seq_neg (a ∷ l) (suc n) = seq_neg l n

  pub seq_scale : (c : C) (l : List C) (n : ℕ) → seq (scale_l c l) n ≡ c ⊗ seq l n
  unfolding scale_l
  seq_scale c [] n = sym (⊗-zero R c)
  seq_scale c (a ∷ l) zero = refl
  seq_scale c (a ∷ l) (suc n) = seq_scale c l n

  pub seq_mul : (l m : List C) (n : ℕ) → seq (mul_l l m) n ≡ conv R (seq l) (seq m) n
  unfolding mul_l conv
  seq_mul [] m n = sym (conv_zero R n (seq m))
  seq_mul (a ∷ l) m zero = seq_add (scale_l a m) (𝟘 ∷ mul_l l m) 0 ∙ ⊕-zero _ ∙ seq_scale a m 0
  seq_mul (a ∷ l) m (suc n) =
      seq_add (scale_l a m) (𝟘 ∷ mul_l l m) (suc n) ∙ ap₂ ◌⊕◌ (seq_scale a m (suc n)) (seq_mul l m n)

  -- no zero at the end
  abbrev pub Trim : List C → Type 0
  Trim [] = Unit {0}
  Trim (a ∷ []) = a ≢ 𝟘
  Trim (a ∷ (b ∷ l)) = Trim (b ∷ l)

  pub trim_prop : (l : List C) → IsProp (Trim l)
  trim_prop [] = Unit-prop
  trim_prop (a ∷ []) = ¬_prop
  trim_prop (a ∷ (b ∷ l)) = trim_prop (b ∷ l)

  pub trim_tail : (a : C) (l : List C) → Trim (a ∷ l) → Trim l
  trim_tail a [] t = tt
  trim_tail a (b ∷ l) t = t

  pub trim_zero : (a : C) (l : List C) → Trim (a ∷ l) → ((n : ℕ) → seq (a ∷ l) n ≡ 𝟘) → ⊥
  trim_zero a [] t h = t (h 0)
  trim_zero a (b ∷ l) t h = trim_zero b l t (λ n. h (suc n))

  -- a trimmed list is determined by its sequence
  pub trim_ext : (l m : List C) → Trim l → Trim m → ((n : ℕ) → seq l n ≡ seq m n) → l ≡ m
  trim_ext [] [] s t h = refl
  trim_ext [] (b ∷ m) s t h = absurd (trim_zero b m t (λ n. sym (h n)))
  trim_ext (a ∷ l) [] s t h = absurd (trim_zero a l s h)
  trim_ext (a ∷ l) (b ∷ m) s t h =
      ap₂ ◌∷◌ (h 0) (trim_ext l m (trim_tail a l s) (trim_tail b m t) (λ n. h (suc n)))

  pub trim_len : (l : List C) (n : ℕ) → Trim l → ((k : ℕ) → n ≤ k → seq l k ≡ 𝟘) → length l ≤ n
  trim_len [] n t h = zero-le
  trim_len (a ∷ l) zero t h = absurd (trim_zero a l t (λ k. h k zero-le))
  trim_len (a ∷ l) (suc n) t h = suc-le-suc (trim_len l n (trim_tail a l t) (λ k g. h (suc k) (suc-le-suc g)))

  pub trim_last : (a : C) (l : List C) → Trim (a ∷ l) → seq (a ∷ l) (length l) ≢ 𝟘
  trim_last a [] t = t
  trim_last a (b ∷ l) t = trim_last b l t

  pub trim_top : (l : List C) (n : ℕ) → Trim l → length l ≡ n + 1 → seq l n ≢ 𝟘
  trim_top [] n t e = absurd (omega arith)
  trim_top (a ∷ l) n t e =
      let q : length l ≡ n = omega arith in subst (λ (k : ℕ). seq (a ∷ l) k ≢ 𝟘) q (trim_last a l t)

  module _ (zero? : (a : C) → Dec (a ≡ 𝟘)) where
    abbrev pub cons_d : (a : C) → Dec (a ≡ 𝟘) → List C → List C
    cons_d a (yes e) [] = []
    cons_d a (no e) [] = a ∷ []
    cons_d a d (b ∷ l) = a ∷ (b ∷ l)

    pub trim_cons : (a : C) (d : Dec (a ≡ 𝟘)) (l : List C) → Trim l → Trim (cons_d a d l)
    trim_cons a (yes e) [] t = tt
    trim_cons a (no e) [] t = e
    trim_cons a d (b ∷ l) t = t

    pub seq_cons : (a : C) (d : Dec (a ≡ 𝟘)) (l : List C) (n : ℕ) → seq (cons_d a d l) n ≡ seq (a ∷ l) n
    seq_cons a (yes e) [] zero = sym e
    seq_cons a (yes e) [] (suc n) = refl
    seq_cons a (no e) [] n = refl
    seq_cons a d (b ∷ l) n = refl

    unfoldable pub norm : List C → List C
    norm [] = []
    norm (a ∷ l) = cons_d a (zero? a) (norm l)

    pub trim_norm : (l : List C) → Trim (norm l)
    unfolding norm
    trim_norm [] = tt
    trim_norm (a ∷ l) = trim_cons a (zero? a) (norm l) (trim_norm l)

    pub seq_norm : (l : List C) (n : ℕ) → seq (norm l) n ≡ seq l n
    unfolding norm
    seq_norm [] n = refl
    seq_norm (a ∷ l) zero = seq_cons a (zero? a) (norm l) 0
    seq_norm (a ∷ l) (suc n) = seq_cons a (zero? a) (norm l) (suc n) ∙ seq_norm l n
