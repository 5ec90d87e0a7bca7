-- Convolution of sequences that end: the last term of the product, and nothing past it.
use mathlib.Core.Path.{◌≡◌, refl, sym, ◌∙◌, ap, ap₂, fun_ext}
use Prim.Native.Nat.{ℕ, zero, suc, ◌+◌, ◌-◌, ◌<◌, zero-le, suc-le-suc}
use native.Mathlib.Nat.{zero-add, suc-add}
use native.Mathlib.Omega.{arith}
use Rattle.ring.proofs.Ring.{CommRing, ⊗-zero, zero-⊗, zero-⊕}
use Rattle.ring.proofs.Series.{conv, tail, conv_zero}

module _ {C : Type 0} (R : CommRing C) where
  infixl 60 ◌⊕◌
  infixl 70 ◌⊗◌
  open R use {𝟘, ◌⊕◌, ◌⊗◌, ⊕-zero}

  -- f is 0 past n
  abbrev pub Ends : (ℕ → C) → ℕ → Type 0
  Ends f n = (k : ℕ) → n < k → f k ≡ 𝟘

  -- a sequence that ends at 0 is a constant
  pub conv_const : (m : ℕ) (f g : ℕ → C) → Ends f 0 → conv R f g m ≡ f 0 ⊗ g m
  unfolding conv
  conv_const zero f g h = refl
  conv_const (suc m) f g h =
      let e : tail f ≡ (λ _. 𝟘) = fun_ext (λ k. h (suc k) (suc-le-suc zero-le)) in
      ap (λ (t : ℕ → C). f 0 ⊗ g (suc m) ⊕ conv R t g m) e ∙ ap (λ x. f 0 ⊗ g (suc m) ⊕ x) (conv_zero R m g) ∙ ⊕-zero _

  pub conv_top : (n m : ℕ) (f g : ℕ → C) → Ends f n → Ends g m → conv R f g (n + m) ≡ f n ⊗ g m
  unfolding conv
  conv_top zero m f g h k = rw zero-add (conv_const m f g h)
  conv_top (suc n) m f g h k =
      rw suc-add (ap₂ ◌⊕◌ (ap (λ x. f 0 ⊗ x) (k (suc (n + m)) (omega arith)) ∙ ⊗-zero R (f 0))
      (conv_top n m (tail f) g (λ j l. h (suc j) (suc-le-suc l)) k) ∙ zero-⊕ R _)

  pub conv_past : (n m : ℕ) (f g : ℕ → C) → Ends f n → Ends g m → Ends (conv R f g) (n + m)
  conv_past n m f g h k j l =
      let e : j - m + m ≡ j = omega arith in
      let t : n < j - m = omega arith in
      ap (λ (i : ℕ). conv R f g i) (sym e) ∙ conv_top (j - m) m f g (λ i u. h i (omega arith)) k
      ∙ ap (λ x. x ⊗ g m) (h (j - m) t) ∙ zero-⊗ R (g m)
