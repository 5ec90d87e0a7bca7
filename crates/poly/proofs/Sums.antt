-- Sums, opposites and differences, from their coefficients.
use Rattle.std.proofs.Common.{◌≡◌, ℕ, zero, suc, ◌<◌, ◌≤◌, [], ◌∷◌, get_or, sym, ap, ◌∙◌, subst, ap₂, zero-le, arith}
use Rattle.field.specs.Meaning.{Meaning, Lawful}
use Rattle.ring.proofs.Ring.{⊗-zero}
use Rattle.ring.proofs.Poly.{add_p, neg_p, mul_p, zero_p, coef, coef_add, coef_neg, coef_conv}
use Rattle.ring.proofs.Tops.{conv_const}
use Rattle.ring.proofs.Sizes.{len, len_le, len_add, len_neg, coef_past, ends}
use Rattle.algebra.specs.Codes.{code, codes, ring_c, zero_low, R}
use Rattle.poly.specs.Values.{at, size, constant_p}
use Rattle.poly.specs.Rules.{Sum, Opposite, Difference, Scaled, Zero, Constant}
use Rattle.poly.specs.declared.poly.Poly.{Poly}
use Rattle.poly.proofs.Bridge.{is_places, is_below, at_is, len_is, code_sum, code_opposite, code_product, code_zero, coef_constant, len_constant}

pub sum_is : {m : Meaning} {a b r : Poly} (n : ℕ) → size a ≤ n → size b ≤ n → ((k : ℕ) → k < n → at r k ≡ m.sum (at a k) (at b k))
    → ((k : ℕ) → n ≤ k → at r k ≡ 0) → Sum m a b r
sum_is {m} {a} {b} {r} n a_low b_low h z L x y hx hy =
    is_below L r (add_p (codes L) x y) n
    (λ k g. subst (λ (c : ℕ). c < m.size) (sym (h k g)) (L.sum_closed (at a k) (at b k) (hx.low k) (hy.low k)))
    (λ k g. ap (code L) (h k g) ∙ code_sum L (at a k) (at b k) (hx.low k) (hy.low k)
    ∙ ap₂ (ring_c L).◌⊕◌ (at_is L hx k) (at_is L hy k) ∙ sym (coef_add (codes L) x y k)) z
    (len_add (codes L) x y n (omega (arith, len_is L hx)) (omega (arith, len_is L hy)))

pub opposite_is : {m : Meaning} {a r : Poly} (n : ℕ) → size a ≤ n → ((k : ℕ) → k < n → at r k ≡ m.opposite (at a k))
    → ((k : ℕ) → n ≤ k → at r k ≡ 0) → Opposite m a r
opposite_is {m} {a} {r} n a_low h z L x hx =
    is_below L r (neg_p (codes L) x) n
    (λ k g. subst (λ (c : ℕ). c < m.size) (sym (h k g)) (L.opposite_closed (at a k) (hx.low k)))
    (λ k g. ap (code L) (h k g) ∙ code_opposite L (at a k) (hx.low k)
    ∙ ap (ring_c L).⊖◌ (at_is L hx k) ∙ sym (coef_neg (codes L) x k)) z
    (omega (arith, len_neg (codes L) x, len_is L hx))

pub difference_is : {m : Meaning} {a b r : Poly} (n : ℕ) → size a ≤ n → size b ≤ n → ((k : ℕ) → k < n → at r k ≡ m.sum (at a k) (m.opposite (at b k)))
    → ((k : ℕ) → n ≤ k → at r k ≡ 0) → Difference m a b r
difference_is {m} {a} {b} {r} n a_low b_low h z L x y hx hy =
    is_below L r (add_p (codes L) x (neg_p (codes L) y)) n
    (λ k g. subst (λ (c : ℕ). c < m.size) (sym (h k g)) (L.sum_closed (at a k) (m.opposite (at b k)) (hx.low k) (L.opposite_closed (at b k) (hy.low k))))
    (λ k g. ap (code L) (h k g) ∙ code_sum L (at a k) (m.opposite (at b k)) (hx.low k) (L.opposite_closed (at b k) (hy.low k))
    ∙ ap₂ (ring_c L).◌⊕◌ (at_is L hx k) (code_opposite L (at b k) (hy.low k) ∙ ap (ring_c L).⊖◌ (at_is L hy k) ∙ sym (coef_neg (codes L) y k))
    ∙ sym (coef_add (codes L) x (neg_p (codes L) y) k)) z
    (len_add (codes L) x (neg_p (codes L) y) n (omega (arith, len_is L hx)) (omega (arith, len_is L hy, len_neg (codes L) y)))

-- a constant times a polynomial
module _ {m : Meaning} (L : Lawful m) where
  pub coef_scaled : (c : ℕ) (x : R L) (k : ℕ) → coef (codes L) (mul_p (codes L) (constant_p L c) x) k ≡ (ring_c L).◌⊗◌ (code L c) (coef (codes L) x k)
  coef_scaled c x k =
      coef_conv (codes L) (constant_p L c) x k
      ∙ conv_const (ring_c L) k (coef (codes L) (constant_p L c)) (coef (codes L) x) (ends (codes L) (constant_p L c) 0 (let l = len_constant L c in omega arith))
      ∙ ap (λ y. (ring_c L).◌⊗◌ y (coef (codes L) x k)) (coef_constant L c 0)

  pub len_scaled : (c : ℕ) (x : R L) (n : ℕ) → len (codes L) x ≤ n → len (codes L) (mul_p (codes L) (constant_p L c) x) ≤ n
  len_scaled c x n h = len_le (codes L) (mul_p (codes L) (constant_p L c) x) n
      (λ k g. coef_scaled c x k ∙ ap ((ring_c L).◌⊗◌ (code L c)) (coef_past (codes L) x k (omega arith)) ∙ ⊗-zero (ring_c L) (code L c))

pub scaled_is : {m : Meaning} {c : ℕ} {a r : Poly} (n : ℕ) → size a ≤ n → ((k : ℕ) → k < n → at r k ≡ m.product c (at a k))
    → ((k : ℕ) → n ≤ k → at r k ≡ 0) → Scaled m c a r
scaled_is {m} {c} {a} {r} n a_low h z L x hc hx =
    is_below L r (mul_p (codes L) (constant_p L c) x) n
    (λ k g. subst (λ (j : ℕ). j < m.size) (sym (h k g)) (L.product_closed c (at a k) hc (hx.low k)))
    (λ k g. ap (code L) (h k g) ∙ code_product L c (at a k) hc (hx.low k)
    ∙ ap ((ring_c L).◌⊗◌ (code L c)) (at_is L hx k) ∙ sym (coef_scaled L c x k)) z
    (len_scaled L c x n (omega (arith, len_is L hx)))

pub zero_is : (r : Poly) → ((k : ℕ) → at r k ≡ 0) → Zero r
zero_is r h m L =
    is_places L r (zero_p (codes L))
    (λ k g. subst (λ (n : ℕ). n < m.size) (sym (h k)) (zero_low L))
    (λ k g. ap (code L) (h k) ∙ code_zero L) zero-le

pub constant_is : (c : ℕ) (r : Poly) → at r 0 ≡ c → ((k : ℕ) → 0 < k → at r k ≡ 0) → Constant c r
constant_is c r e h m L hc =
    is_places L r (constant_p L c) (λ k g. low k) (λ k g. is k ∙ sym (coef_constant L c k)) (let l = len_constant L c in omega arith)
  where
    low : (k : ℕ) → at r k < m.size
    low zero = subst (λ (n : ℕ). n < m.size) (sym e) hc
    low (suc k) = subst (λ (n : ℕ). n < m.size) (sym (h (suc k) (omega arith))) (zero_low L)

    is : (k : ℕ) → code L (at r k) ≡ get_or (code L c ∷ []) k (ring_c L).𝟘
    is zero = ap (code L) e
    is (suc k) = ap (code L) (h (suc k) (omega arith)) ∙ code_zero L
