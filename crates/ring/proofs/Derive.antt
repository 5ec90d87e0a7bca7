-- The derivative: coefficient n is (n + 1) times coefficient n + 1, where a number k is 1 added k times.
use mathlib.Core.Path.{◌≡◌, sym, ◌∙◌, ap, ap₂, fun_ext}
use mathlib.Core.List.{List, [], ◌∷◌}
use Prim.Native.Nat.{ℕ, zero, suc, ◌+◌}
use native.Mathlib.Omega.{arith}
use Rattle.ring.proofs.Ring.{CommRing, ⊗-zero}
use Rattle.ring.proofs.Quote.{quote, auto}
use Rattle.ring.proofs.Hypotheses.{by_hyp}
use Rattle.ring.proofs.Field.{Field}
use Rattle.ring.proofs.Series.{conv, tail, conv_lin}
use Rattle.ring.proofs.Coeffs.{seq}
use Rattle.ring.proofs.Poly.{Poly, poly, coef, coef_poly, add_p, mul_p, ext, coef_add, coef_conv}

module _ {C : Type 0} (R : CommRing C) where
  infixl 60 ◌⊕◌
  infixl 70 ◌⊗◌
  infix 80 ⊖◌
  open R use {𝟘, 𝟙, ◌⊕◌, ⊖◌, ◌⊗◌}

  unfoldable pub num : ℕ → C
  num zero = 𝟘
  num (suc n) = 𝟙 ⊕ num n

  abbrev pub slope : (ℕ → C) → ℕ → C
  slope f = λ n. num (suc n) ⊗ f (suc n)

  -- (c + x p)' = p + x p', in sequences
  pub slope_tail : (f : ℕ → C) (n : ℕ) → slope f (suc n) ≡ 𝟙 ⊗ f (suc (suc n)) ⊕ slope (tail f) n
  unfolding num
  slope_tail f n = auto R (num n ∷ f (suc (suc n)) ∷ []) (search quote depth 20) tt

  pub slope_conv : (n : ℕ) (f g : ℕ → C) → slope (conv R f g) n ≡ conv R (slope f) g n ⊕ conv R f (slope g) n
  unfolding conv num
  slope_conv zero f g = auto R (f 0 ∷ f 1 ∷ g 0 ∷ g 1 ∷ []) (search quote depth 20) tt
  slope_conv (suc n) f g =
      by_hyp R 𝟙 (slope_conv n (tail f) g) (auto R
      (num n ∷ f 0 ∷ f 1 ∷ g (suc n) ∷ g (suc (suc n)) ∷ conv R (tail (tail f)) g n
      ∷ conv R (slope (tail f)) g n ∷ conv R (tail f) (slope g) n ∷ []) (search quote depth 20) tt)
      ∙ ap (λ x. slope f 0 ⊗ g (suc n) ⊕ x ⊕ (f 0 ⊗ slope g (suc n) ⊕ conv R (tail f) (slope g) n))
      (sym (ap (λ (t : ℕ → C). conv R t g n) (fun_ext (slope_tail f)) ∙ conv_lin R n 𝟙 (tail (tail f)) (slope (tail f)) g))

  -- each coefficient times its number, from k on
  unfoldable pub times_l : ℕ → List C → List C
  times_l k [] = []
  times_l k (a ∷ l) = (num k ⊗ a) ∷ times_l (suc k) l

  pub seq_times : (k : ℕ) (l : List C) (n : ℕ) → seq R (times_l k l) n ≡ num (n + k) ⊗ seq R l n
  unfolding times_l
  seq_times k [] n = sym (⊗-zero R (num (n + k)))
  seq_times k (a ∷ l) zero = ap (λ (j : ℕ). num j ⊗ a) (omega arith)
  seq_times k (a ∷ l) (suc n) = seq_times (suc k) l n ∙ ap (λ (j : ℕ). num j ⊗ seq R l n) (omega arith)

  unfoldable pub der_l : List C → List C
  der_l [] = []
  der_l (a ∷ l) = times_l 1 l

  pub seq_der : (l : List C) (n : ℕ) → seq R (der_l l) n ≡ slope (seq R l) n
  unfolding der_l
  seq_der [] n = sym (⊗-zero R (num (suc n)))
  seq_der (a ∷ l) n = seq_times 1 l n ∙ ap (λ (j : ℕ). num j ⊗ seq R l n) (omega arith)

module _ {C : Type 0} (F : Field C) where
  infixl 60 ◌⊕◌
  infixl 70 ◌⊗◌
  open F.ring use {𝟘, 𝟙, ◌⊕◌, ◌⊗◌, ⊗-dist}

  unfoldable pub der : Poly F → Poly F
  der p = poly F (der_l F.ring p.list)

  pub coef_der : (p : Poly F) (n : ℕ) → coef F (der p) n ≡ slope F.ring (coef F p) n
  unfolding der
  coef_der p n = coef_poly F (der_l F.ring p.list) n ∙ seq_der F.ring p.list n

  pub der_add : (p q : Poly F) → der (add_p F p q) ≡ add_p F (der p) (der q)
  der_add p q = ext F (der (add_p F p q)) (add_p F (der p) (der q)) (λ n.
      coef_der (add_p F p q) n ∙ ap (λ x. num F.ring (suc n) ⊗ x) (coef_add F p q (suc n)) ∙ ⊗-dist _ _ _
      ∙ sym (coef_add F (der p) (der q) n ∙ ap₂ ◌⊕◌ (coef_der p n) (coef_der q n)))

  pub der_mul : (p q : Poly F) → der (mul_p F p q) ≡ add_p F (mul_p F (der p) q) (mul_p F p (der q))
  der_mul p q = ext F (der (mul_p F p q)) (add_p F (mul_p F (der p) q) (mul_p F p (der q))) (λ n.
      coef_der (mul_p F p q) n ∙ ap (λ x. num F.ring (suc n) ⊗ x) (coef_conv F p q (suc n))
      ∙ slope_conv F.ring n (coef F p) (coef F q)
      ∙ sym (coef_add F (mul_p F (der p) q) (mul_p F p (der q)) n ∙ ap₂ ◌⊕◌
      (coef_conv F (der p) q n ∙ ap (λ (f : ℕ → C). conv F.ring f (coef F q) n) (fun_ext (coef_der p)))
      (coef_conv F p (der q) n ∙ ap (λ (f : ℕ → C). conv F.ring (coef F p) f n) (fun_ext (coef_der q)))))
