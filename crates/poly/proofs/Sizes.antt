-- How long the results are: lengths of records, from what they stand for.
use Rattle.std.proofs.Common.{◌≡◌, ℕ, suc, ◌+◌, ◌-◌, ◌<◌, ◌≤◌, ◌≢◌, sym, ap, ◌∙◌, arith}
use Rattle.field.specs.Meaning.{Meaning, Lawful}
use Rattle.ring.proofs.Ring.{⊗-zero}
use Rattle.ring.proofs.Poly.{zero_p}
use Rattle.ring.proofs.Sizes.{len, len_le, len_add, len_neg, len_mul, coef_past}
use Rattle.ring.proofs.Derive.{num, der, coef_der}
use Rattle.algebra.specs.Codes.{codes, ring_c, R}
use Rattle.poly.specs.Signs.{◌⊕◌, ◌⊗◌, ⊖◌}
use Rattle.poly.specs.Values.{size, Is}
use Rattle.poly.specs.declared.poly.Poly.{Poly}
use Rattle.poly.proofs.Bridge.{len_is}
use Rattle.poly.proofs.Products.{len_product}

module _ {m : Meaning} (L : Lawful m) (a b r : Poly) (x y : R L) (hx : Is L a x) (hy : Is L b y) where
  pub size_sum : Is L r (x ⊕ y) → (n : ℕ) → size a ≤ n → size b ≤ n → size r ≤ n
  size_sum hr n ha hb = omega (
    arith,
    len_is L hx,
    len_is L hy,
    len_is L hr,
    len_add (codes L) x y n (omega (arith, len_is L hx)) (omega (arith, len_is L hy)),
  )

  pub size_difference : Is L r (x ⊕ ⊖ y) → (n : ℕ) → size a ≤ n → size b ≤ n → size r ≤ n
  size_difference hr n ha hb = omega (
    arith,
    len_is L hr,
    len_add (codes L) x (⊖ y) n (omega (arith, len_is L hx)) (omega (arith, len_is L hy, len_neg (codes L) y)),
  )

  pub size_product : Is L r (x ⊗ y) → (n : ℕ) → size a + size b ≤ n + 1 → size r ≤ n
  size_product hr n h = omega (arith, len_is L hr, len_product L x y n (omega (arith, len_is L hx, len_is L hy)))

  pub size_whole : Is L r (x ⊗ y) → 0 < size a → 0 < size b → size r + 1 ≡ size a + size b
  size_whole hr ha hb =
      let o = len_is L hx in
      let p = len_is L hy in
      let nx : x ≢ zero_p (codes L) = λ e. let k : len (codes L) x ≡ 0 = ap (len (codes L)) e in absurd (omega arith) in
      let ny : y ≢ zero_p (codes L) = λ e. let k : len (codes L) y ≡ 0 = ap (len (codes L)) e in absurd (omega arith) in
      omega (arith, len_is L hr, len_mul (codes L) x y nx ny)

module _ {m : Meaning} (L : Lawful m) (a r : Poly) (x : R L) (hx : Is L a x) where
  pub size_opposite : Is L r (⊖ x) → size r ≡ size a
  size_opposite hr = sym (len_is L hr) ∙ len_neg (codes L) x ∙ len_is L hx

  pub size_derivative : Is L r (der (codes L) x) → size r ≤ size a - 1
  size_derivative hr =
      let o = len_is L hx in
      omega (
        arith,
        len_is L hr,
        len_le (codes L) (der (codes L) x) (size a - 1) (λ k g. coef_der (codes L) x k
            ∙ ap ((ring_c L).◌⊗◌ (num (ring_c L) (suc k))) (coef_past (codes L) x (suc k) (omega arith)) ∙ ⊗-zero (ring_c L) (num (ring_c L) (suc k))),
      )
