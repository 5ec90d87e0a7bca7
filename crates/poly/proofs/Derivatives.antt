-- Derivatives, from their coefficients.
use Rattle.std.proofs.Common.{◌≡◌, ℕ, zero, suc, ◌+◌, ◌<◌, ◌≤◌, sym, ap, ◌∙◌, subst, ap₂, arith}
use Rattle.field.specs.Meaning.{Meaning, Lawful}
use Rattle.ring.proofs.Ring.{⊗-zero}
use Rattle.ring.proofs.Sizes.{len_le, coef_past}
use Rattle.ring.proofs.Derive.{num, der, coef_der}
use Rattle.algebra.specs.Codes.{code, codes, ring_c, zero_low, one_low}
use Rattle.poly.specs.Values.{at, size}
use Rattle.poly.specs.Rules.{Derivative}
use Rattle.poly.specs.declared.poly.Poly.{Poly}
use Rattle.poly.proofs.Bridge.{is_below, at_is, len_is, code_sum, code_product, code_zero, code_one}

-- 1 added k times
unfoldable pub times : Meaning → ℕ → ℕ
times m zero = 0
times m (suc k) = m.sum 1 (times m k)

module _ {m : Meaning} (L : Lawful m) where
  pub times_low : (k : ℕ) → times m k < m.size
  unfolding times
  times_low zero = zero_low L
  times_low (suc k) = L.sum_closed 1 (times m k) (one_low L) (times_low k)

  pub times_is : (k : ℕ) → code L (times m k) ≡ num (ring_c L) k
  unfolding times num
  times_is zero = code_zero L
  times_is (suc k) = code_sum L 1 (times m k) (one_low L) (times_low k) ∙ ap₂ (ring_c L).◌⊕◌ (code_one L) (times_is k)

pub derivative_is : (m : Meaning) (a r : Poly) (n : ℕ) → size a ≤ n + 1 → ((k : ℕ) → k < n → at r k ≡ m.product (times m (suc k)) (at a (suc k)))
    → ((k : ℕ) → n ≤ k → at r k ≡ 0) → Derivative m a r
derivative_is m a r n a_low h z L x hx = is_below L r (der (codes L) x) n
    (λ k g. subst (λ (c : ℕ). c < m.size) (sym (h k g)) (L.product_closed (times m (suc k)) (at a (suc k)) (times_low L (suc k)) (hx.low (suc k))))
    (λ k g. ap (code L) (h k g) ∙ code_product L (times m (suc k)) (at a (suc k)) (times_low L (suc k)) (hx.low (suc k))
    ∙ ap₂ (ring_c L).◌⊗◌ (times_is L (suc k)) (at_is L hx (suc k)) ∙ sym (coef_der (codes L) x k)) z
    (len_le (codes L) (der (codes L) x) n (λ k g. coef_der (codes L) x k
    ∙ ap ((ring_c L).◌⊗◌ (num (ring_c L) (suc k))) (coef_past (codes L) x (suc k) (omega (arith, len_is L hx))) ∙ ⊗-zero (ring_c L) (num (ring_c L) (suc k))))
