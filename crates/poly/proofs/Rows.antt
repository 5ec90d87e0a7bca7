-- A row adds c x^i b: what that is coefficient by coefficient, and what it does to a product.
use Rattle.std.proofs.Common.{◌≡◌, ℕ, zero, suc, ◌+◌, ◌-◌, ◌<◌, ◌≤◌, ◌≢◌, List, [], ◌∷◌, length, get_or, sym, refl, ap, ◌∙◌, subst, ap₂, ⊎_elim, suc-add, zero-add, arith}
use mathlib.Core.Path.{fun_ext}
use Rattle.std.proofs.lemmas.Bool.{cases_lt}
use Rattle.field.specs.Meaning.{Meaning, Lawful}
use Rattle.ring.proofs.Ring.{CommRing, ⊗-zero}
use Rattle.ring.proofs.Quote.{quote, auto}
use Rattle.ring.proofs.Series.{conv, tail}
use Rattle.ring.proofs.Poly.{coef}
use Rattle.ring.proofs.Sizes.{coef_past}
use Rattle.algebra.specs.Codes.{code, codes, ring_c, R}
use Rattle.poly.specs.Rows.{Row}
use Rattle.poly.specs.Values.{at, size, Is}
use Rattle.poly.specs.declared.poly.Poly.{Poly}
use Rattle.poly.proofs.Bridge.{at_is, len_is, code_sum, code_product}

module _ {C : Type 0} (K : CommRing C) where
  infixl 60 ◌⊕◌
  infixl 70 ◌⊗◌
  infix 80 ⊖◌
  open K use {𝟘, 𝟙, ◌⊕◌, ⊖◌, ◌⊗◌, ⊕-zero}

  -- the coefficients of x^i g
  unfoldable pub shift : ℕ → (ℕ → C) → ℕ → C
  shift zero g n = g n
  shift (suc i) g zero = 𝟘
  shift (suc i) g (suc n) = shift i g n

  pub shift_before : (i n : ℕ) (g : ℕ → C) → n < i → shift i g n ≡ 𝟘
  unfolding shift
  shift_before zero n g h = absurd (omega arith)
  shift_before (suc i) zero g h = refl
  shift_before (suc i) (suc n) g h = shift_before i n g (omega arith)

  pub shift_at : (i k : ℕ) (g : ℕ → C) → shift i g (i + k) ≡ g k
  unfolding shift
  shift_at zero k g = ap g (zero-add k)
  shift_at (suc i) k g = rw suc-add (shift_at i k g)

  -- where c is added to the coefficient of f at i, c x^i g is added to the product of f and g
  pub conv_step : (i n : ℕ) (f f' g : ℕ → C) (c : C) → f' i ≡ f i ⊕ c → ((k : ℕ) → k ≢ i → f' k ≡ f k)
      → conv K f' g n ≡ conv K f g n ⊕ c ⊗ shift i g n
  unfolding conv shift
  conv_step zero zero f f' g c e h = ap (λ z. z ⊗ g 0) e ∙ auto K (f 0 ∷ c ∷ g 0 ∷ []) (search quote depth 20) tt
  conv_step zero (suc n) f f' g c e h =
      ap₂ (λ z (t : ℕ → C). z ⊗ g (suc n) ⊕ conv K t g n) e (fun_ext (λ k. h (suc k) (omega arith)))
      ∙ auto K (f 0 ∷ c ∷ g (suc n) ∷ conv K (tail f) g n ∷ []) (search quote depth 20) tt
  conv_step (suc i) zero f f' g c e h = ap (λ z. z ⊗ g 0) (h 0 (omega arith)) ∙ auto K (f 0 ∷ c ∷ g 0 ∷ []) (search quote depth 20) tt
  conv_step (suc i) (suc n) f f' g c e h =
      ap₂ (λ z w. z ⊗ g (suc n) ⊕ w) (h 0 (omega arith)) (conv_step i n (tail f) (tail f') g c e (λ k l. h (suc k) (omega arith)))
      ∙ auto K (f 0 ∷ c ∷ g (suc n) ∷ conv K (tail f) g n ∷ shift i g n ∷ []) (search quote depth 20) tt

  -- the coefficients of f below i
  unfoldable pub upto : (ℕ → C) → ℕ → ℕ → C
  upto f zero k = 𝟘
  upto f (suc i) zero = f 0
  upto f (suc i) (suc k) = upto (tail f) i k

  pub upto_below : (f : ℕ → C) (i k : ℕ) → k < i → upto f i k ≡ f k
  unfolding upto
  upto_below f zero k h = absurd (omega arith)
  upto_below f (suc i) zero h = refl
  upto_below f (suc i) (suc k) h = upto_below (tail f) i k (omega arith)

  pub upto_past : (f : ℕ → C) (i k : ℕ) → i ≤ k → upto f i k ≡ 𝟘
  unfolding upto
  upto_past f zero k h = refl
  upto_past f (suc i) zero h = absurd (omega arith)
  upto_past f (suc i) (suc k) h = upto_past (tail f) i k (omega arith)

  pub conv_upto : (i n : ℕ) (f g : ℕ → C) → conv K (upto f (suc i)) g n ≡ conv K (upto f i) g n ⊕ f i ⊗ shift i g n
  conv_upto i n f g = conv_step i n (upto f i) (upto f (suc i)) g (f i)
      (upto_below f (suc i) i (omega arith) ∙ sym (ap (λ z. z ⊕ f i) (upto_past f i i (omega arith)) ∙ auto K (f i ∷ []) (search quote depth 20) tt))
      (λ k h. ⊎_elim
      (λ l. upto_below f (suc i) k (omega arith) ∙ sym (upto_below f i k l))
      (λ l. upto_past f (suc i) k (omega arith) ∙ sym (upto_past f i k l)) (cases_lt k i))

-- a row, read as codes: at each place that it covers, or where b has no coefficient
module _ {m : Meaning} (L : Lawful m) (b : Poly) (y : R L) (hy : Is L b y) (old row new : List ℕ) (i c : ℕ) (row_at : (k : ℕ) → k < length row → get_or row k 0 ≡ at b k)
    (c_low : c < m.size) (old_low : (k : ℕ) → get_or old k 0 < m.size) (h : Row m old i c row new) where
  infixl 60 ◌⊕◌
  infixl 70 ◌⊗◌
  open ring_c L use {𝟘, 𝟙, ◌⊕◌, ◌⊗◌, ⊕-zero}

  placed : (k : ℕ) → k < length row → get_or new (i + k) 0 ≡ m.sum (get_or old (i + k) 0) (m.product c (at b k))
  placed k g = h.inside k g ∙ ap (λ (z : ℕ). m.sum (get_or old (i + k) 0) (m.product c z)) (row_at k g)

  pub row_low : (k : ℕ) → get_or new k 0 < m.size
  row_low k = ⊎_elim (λ g. same (h.before k g)) (λ g. ⊎_elim (inside g) (λ l. same (h.after k l)) (cases_lt k (i + length row))) (cases_lt k i)
    where
      same : get_or new k 0 ≡ get_or old k 0 → get_or new k 0 < m.size
      same e = subst (λ (z : ℕ). z < m.size) (sym e) (old_low k)

      inside : i ≤ k → k < i + length row → get_or new k 0 < m.size
      inside g l =
          let j : ℕ = k - i in
          let e : i + j ≡ k = omega arith in
          subst (λ (z : ℕ). get_or new z 0 < m.size) e (subst (λ (z : ℕ). z < m.size) (sym (placed j (omega arith)))
          (L.sum_closed (get_or old (i + j) 0) (m.product c (at b j)) (old_low (i + j)) (L.product_closed c (at b j) c_low (hy.low j))))

  pub row_is : (k : ℕ) → (i + length row ≤ k → i + size b ≤ k) → code L (get_or new k 0) ≡ code L (get_or old k 0) ⊕ code L c ⊗ shift (ring_c L) i (coef (codes L) y) k
  row_is k all = ⊎_elim (λ g. same (h.before k g) (shift_before (ring_c L) i k (coef (codes L) y) g))
      (λ g. ⊎_elim (inside g) (λ l. same (h.after k l) (past g (all l))) (cases_lt k (i + length row))) (cases_lt k i)
    where
      same : get_or new k 0 ≡ get_or old k 0 → shift (ring_c L) i (coef (codes L) y) k ≡ 𝟘
          → code L (get_or new k 0) ≡ code L (get_or old k 0) ⊕ code L c ⊗ shift (ring_c L) i (coef (codes L) y) k
      same e z = ap (code L) e ∙ sym (ap (λ w. code L (get_or old k 0) ⊕ code L c ⊗ w) z ∙ ap (λ w. code L (get_or old k 0) ⊕ w) (⊗-zero (ring_c L) (code L c)) ∙ ⊕-zero _)

      past : i ≤ k → i + size b ≤ k → shift (ring_c L) i (coef (codes L) y) k ≡ 𝟘
      past g l =
          let j : ℕ = k - i in
          let e : i + j ≡ k = omega arith in
          subst (λ (z : ℕ). shift (ring_c L) i (coef (codes L) y) z ≡ 𝟘) e
          (shift_at (ring_c L) i j (coef (codes L) y) ∙ coef_past (codes L) y j (omega (arith, len_is L hy)))

      inside : i ≤ k → k < i + length row → code L (get_or new k 0) ≡ code L (get_or old k 0) ⊕ code L c ⊗ shift (ring_c L) i (coef (codes L) y) k
      inside g l =
          let j : ℕ = k - i in
          let e : i + j ≡ k = omega arith in
          subst (λ (z : ℕ). code L (get_or new z 0) ≡ code L (get_or old z 0) ⊕ code L c ⊗ shift (ring_c L) i (coef (codes L) y) z) e
          (ap (code L) (placed j (omega arith))
          ∙ code_sum L (get_or old (i + j) 0) (m.product c (at b j)) (old_low (i + j)) (L.product_closed c (at b j) c_low (hy.low j))
          ∙ ap (λ z. code L (get_or old (i + j) 0) ⊕ z) (code_product L c (at b j) c_low (hy.low j)
          ∙ ap (λ z. code L c ⊗ z) (at_is L hy j ∙ sym (shift_at (ring_c L) i j (coef (codes L) y)))))
