-- Lengths of polynomials (degree + 1, and 0 for the zero polynomial), and their top coefficients.
use mathlib.Core.Path.{◌≡◌, refl, sym, ◌∙◌, ap, ap₂}
use mathlib.Core.Logic.{◌≢◌}
use mathlib.Core.List.{List, [], ◌∷◌}
use Prim.Native.Nat.{ℕ, suc, ◌+◌, ◌-◌, ◌≤◌}
use native.Mathlib.Omega.{arith}
use lib.ListN.{length, get_or-eq_default}
use Rattle.ring.proofs.Ring.{neg_zero, neg_neg}
use Rattle.ring.proofs.Field.{Field, domain}
use Rattle.ring.proofs.Tops.{conv_top, conv_past, Ends}
use Rattle.ring.proofs.Coeffs.{trim_len, trim_top}
use Rattle.ring.proofs.Poly.{Poly, coef, zero_p, add_p, neg_p, mul_p, list_ext, coef_add, coef_neg, coef_conv}

module _ {C : Type 0} (F : Field C) where
  infixl 60 ◌⊕◌
  infixl 70 ◌⊗◌
  infix 80 ⊖◌
  open F.ring use {𝟘, ◌⊕◌, ⊖◌, ◌⊗◌, ⊕-zero}

  abbrev pub len : Poly F → ℕ
  len p = length p.list

  pub zero_len : (p : Poly F) → len p ≡ 0 → p ≡ zero_p F
  zero_len p e = list_ext F p (zero_p F) (none p.list e)
    where
      none : (l : List C) → length l ≡ 0 → l ≡ []
      none [] h = refl
      none (a ∷ l) h = absurd (omega arith)

  pub len_le : (p : Poly F) (n : ℕ) → ((k : ℕ) → n ≤ k → coef F p k ≡ 𝟘) → len p ≤ n
  len_le p n h = trim_len F.ring p.list n p.trim h

  pub coef_past : (p : Poly F) (n : ℕ) → len p ≤ n → coef F p n ≡ 𝟘
  coef_past p n h = get_or-eq_default p.list 𝟘 h

  pub coef_top : (p : Poly F) (n : ℕ) → len p ≡ n + 1 → coef F p n ≢ 𝟘
  coef_top p n e = trim_top F.ring p.list n p.trim e

  pub len_add : (p q : Poly F) (n : ℕ) → len p ≤ n → len q ≤ n → len (add_p F p q) ≤ n
  len_add p q n h g = len_le (add_p F p q) n
      (λ k l. coef_add F p q k ∙ ap₂ ◌⊕◌ (coef_past p k (omega arith)) (coef_past q k (omega arith)) ∙ ⊕-zero 𝟘)

  pub len_neg : (p : Poly F) → len (neg_p F p) ≡ len p
  len_neg p =
      let a : len (neg_p F p) ≤ len p = len_le (neg_p F p) (len p) (λ k l. coef_neg F p k ∙ ap ⊖◌ (coef_past p k l) ∙ neg_zero F.ring) in
      let b : len p ≤ len (neg_p F p) = len_le p (len (neg_p F p))
      (λ k l. sym (neg_neg F.ring (coef F p k)) ∙ ap ⊖◌ (sym (coef_neg F p k) ∙ coef_past (neg_p F p) k l) ∙ neg_zero F.ring) in
      omega arith

  pub ends : (p : Poly F) (n : ℕ) → len p ≤ n + 1 → Ends F.ring (coef F p) n
  ends p n h k l = coef_past p k (omega arith)

  pub coef_mul : (p q : Poly F) (n m : ℕ) → len p ≤ n + 1 → len q ≤ m + 1 → coef F (mul_p F p q) (n + m) ≡ coef F p n ⊗ coef F q m
  coef_mul p q n m h g = coef_conv F p q (n + m) ∙ conv_top F.ring n m (coef F p) (coef F q) (ends p n h) (ends q m g)

  pub len_pos : (p : Poly F) → p ≢ zero_p F → 1 ≤ len p
  len_pos p h = let z : len p ≢ 0 = λ e. h (zero_len p e) in omega arith

  pub len_mul : (p q : Poly F) → p ≢ zero_p F → q ≢ zero_p F → len (mul_p F p q) + 1 ≡ len p + len q
  len_mul p q h g =
      let a = len_pos p h in
      let b = len_pos q g in
      let n = len p - 1 in
      let m = len q - 1 in
      let c : len p ≡ n + 1 = omega arith in
      let d : len q ≡ m + 1 = omega arith in
      let c' : len p ≤ n + 1 = omega arith in
      let d' : len q ≤ m + 1 = omega arith in
      let top : len (mul_p F p q) ≤ n + m + 1 = len_le (mul_p F p q) (n + m + 1)
      (λ k l. coef_conv F p q k ∙ conv_past F.ring n m (coef F p) (coef F q) (ends p n c') (ends q m d') k (omega arith)) in
      let low : ¬ (len (mul_p F p q) ≤ n + m) = λ l. domain F (coef F p n) (coef F q m) (coef_top p n c) (coef_top q m d)
      (sym (coef_mul p q n m c' d') ∙ coef_past (mul_p F p q) (n + m) l) in
      omega arith

  -- the zero test
  pub zero_poly? : (p : Poly F) → Dec (p ≡ zero_p F)
  zero_poly? p = go p.list refl
    where
      go : (l : List C) → p.list ≡ l → Dec (p ≡ zero_p F)
      go [] e = yes (list_ext F p (zero_p F) e)
      go (a ∷ l) e = no (λ z. let k : ◌≡◌ {A = ℕ} 0 (suc (length l)) = ap length (sym (ap (λ (r : Poly F). r.list) z) ∙ e) in absurd (omega arith))
