-- Between the coefficients of a record and the polynomial that it stands for.
use Rattle.std.proofs.Common.{◌≡◌, ℕ, zero, suc, ◌+◌, ◌-◌, ◌<◌, ◌≤◌, Bool, List, [], ◌∷◌, map, length, get_or, Decides, sym, refl, ap, ◌∙◌, subst, ap₂, ⊎_elim, arith, ext_get_or}
use Rattle.std.specs.List.{IsLastAndRest}
use lib.ListN.{get_or-map}
use Rattle.std.proofs.lemmas.Bool.{cases_lt}
use Rattle.std.proofs.lemmas.List.{get_or_past, get_or_at, get_or-take, length-take-le, get_or_append_left}
use Rattle.field.specs.Meaning.{Meaning, Lawful}
use Rattle.ring.proofs.Poly.{poly, coef, coef_poly, ext}
use Rattle.ring.proofs.Sizes.{len, len_le, coef_past}
use Rattle.ring.proofs.PolyModel.{poly_ring}
use Rattle.algebra.specs.Codes.{Code, code, codes, code_ext, num_code, zero_low, ring_c, R, K}
use Rattle.poly.specs.Values.{at, size, coefficients, Codes, value, Is, Low, constant_p}
use Rattle.poly.specs.Rules.{Listed, Same}
use Rattle.poly.specs.declared.poly.Poly.{Poly}

pub at_past : (p : Poly) (k : ℕ) → 128 ≤ k → at p k ≡ 0
at_past p k h = let n = p.short in p.past k (omega arith)

module _ {m : Meaning} (L : Lawful m) where
  infixl 60 ◌⊕◌
  infixl 70 ◌⊗◌
  infix 80 ⊖◌
  open ring_c L use {𝟘, 𝟙, ◌⊕◌, ⊖◌, ◌⊗◌}

  pub num_zero : 𝟘.num ≡ 0
  unfolding ring_c
  num_zero = refl

  pub code_is : (n : ℕ) (c : Code m) → n ≡ c.num → code L n ≡ c
  code_is n c e = code_ext _ _ (num_code L n (subst (λ (k : ℕ). k < m.size) (sym e) c.low) ∙ e)

  pub code_zero : code L 0 ≡ 𝟘
  code_zero = code_is 0 𝟘 (sym num_zero)

  pub code_one : code L 1 ≡ 𝟙
  unfolding ring_c
  code_one = code_is 1 (ring_c L).𝟙 refl

  pub code_sum : (a b : ℕ) → a < m.size → b < m.size → code L (m.sum a b) ≡ code L a ⊕ code L b
  unfolding ring_c
  code_sum a b h k = code_is (m.sum a b) ((ring_c L).◌⊕◌ (code L a) (code L b)) (ap₂ m.sum (sym (num_code L a h)) (sym (num_code L b k)))

  pub code_product : (a b : ℕ) → a < m.size → b < m.size → code L (m.product a b) ≡ code L a ⊗ code L b
  unfolding ring_c
  code_product a b h k = code_is (m.product a b) ((ring_c L).◌⊗◌ (code L a) (code L b)) (ap₂ m.product (sym (num_code L a h)) (sym (num_code L b k)))

  pub code_opposite : (a : ℕ) → a < m.size → code L (m.opposite a) ≡ ⊖ code L a
  unfolding ring_c
  code_opposite a h = code_is (m.opposite a) ((ring_c L).⊖◌ (code L a)) (ap m.opposite (sym (num_code L a h)))

  -- a code that reads as zero is 0
  pub code_inj : (a b : ℕ) → a < m.size → b < m.size → code L a ≡ code L b → a ≡ b
  code_inj a b h k e = sym (num_code L a h) ∙ ap (λ (c : Code m). c.num) e ∙ num_code L b k

  pub coef_value : (p : Poly) (k : ℕ) → coef (codes L) (value L p) k ≡ code L (at p k)
  unfolding value
  coef_value p k =
      coef_poly (codes L) (map (code L) p.raw.coeffs) k
      ∙ ap (λ (d : Code m). get_or (map (code L) p.raw.coeffs) k d) (sym code_zero)
      ∙ get_or-map (code L) p.raw.coeffs k 0

  -- what a record stands for, coefficient by coefficient
  pub at_is : {p : Poly} {v : R L} → Is L p v → (k : ℕ) → code L (at p k) ≡ coef (codes L) v k
  at_is {p} {v} h k = sym (coef_value p k) ∙ ap (λ (w : R L). coef (codes L) w k) h.is

  pub low_codes : (p : Poly) → ((k : ℕ) → k < 128 → at p k < m.size) → Codes m p
  low_codes p h k = ⊎_elim (h k) (λ g. subst (λ (n : ℕ). n < m.size) (sym (at_past p k g)) (zero_low L)) (cases_lt k 128)

  pub whole : (p : Poly) (v : R L) → Low L p v → len (codes L) v ≤ 128 → Is L p v
  whole p v h l = record {
    low = h.low;
    is = ext (codes L) (value L p) v (λ k. coef_value p k ∙ ⊎_elim (h.is k) (λ g.
        ap (code L) (at_past p k g) ∙ code_zero ∙ sym (coef_past (codes L) v k (omega arith))) (cases_lt k 128));
  }

  -- a record stands for one polynomial
  pub is_unique : {p : Poly} {v w : R L} → Is L p v → Is L p w → v ≡ w
  is_unique {p} {v} {w} h g = sym h.is ∙ g.is

  -- the length of a record is that of what it stands for
  pub len_is : {p : Poly} {v : R L} → Is L p v → len (codes L) v ≡ size p
  len_is {p} {v} h =
      let a : len (codes L) v ≤ size p = len_le (codes L) v (size p) (λ k g. sym (at_is h k) ∙ ap (code L) (p.past k g) ∙ code_zero) in
      let b : ¬ (len (codes L) v < size p) = λ l.
      let pos : 0 < size p = omega arith in
      p.top pos (code_inj (at p (size p - 1)) 0 (h.low (size p - 1)) (zero_low L)
      (at_is h (size p - 1) ∙ coef_past (codes L) v (size p - 1) (omega arith) ∙ sym code_zero)) in
      omega arith

  -- the same, in the words of the ring of polynomials
  pub length_is : {p : Poly} {v : R L} → Is L p v → (K L).len v ≡ size p
  unfolding poly_ring
  length_is h = len_is h

  pub coefficient_is : {p : Poly} {v : R L} → Is L p v → (k : ℕ) → (K L).coef v k ≡ code L (at p k)
  unfolding poly_ring
  coefficient_is h k = sym (at_is h k)

  pub len_low : {p : Poly} {v : R L} → Is L p v → len (codes L) v ≤ 128
  len_low {p} {v} h = let e = len_is h in let n = p.short in omega arith

  -- a record of codes stands for its value, and is determined by it
  pub self : (p : Poly) → Codes m p → Is L p (value L p)
  self p h = record { low = h; is = refl }

  pub determined : {p q : Poly} {v : R L} → Is L p v → Is L q v → (size p ≡ size q) × (p.raw.coeffs ≡ q.raw.coeffs)
  determined {p} {q} {v} h g = (
    sym (len_is h) ∙ len_is g,
    ext_get_or 0 p.raw.coeffs q.raw.coeffs (p.long ∙ sym q.long)
        (λ k _. code_inj (at p k) (at q k) (h.low k) (g.low k) (at_is h k ∙ sym (at_is g k))),
  )

  pub same_value : {p q : Poly} {v w : R L} → Is L p v → Is L q w → p.raw.coeffs ≡ q.raw.coeffs → v ≡ w
  same_value {p} {q} {v} {w} h g e = ext (codes L) v w (λ k. sym (at_is h k) ∙ ap (λ xs. code L (get_or xs k 0)) e ∙ at_is g k)

  -- the same record, for an equal polynomial
  pub moved : {p : Poly} {v w : R L} → Is L p v → v ≡ w → Is L p w
  moved {p} {v} {w} h e = record { low = h.low; is = h.is ∙ e }

  -- from each coefficient below n, where there are no others
  pub is_below : (p : Poly) (v : R L) (n : ℕ) → ((k : ℕ) → k < n → at p k < m.size) → ((k : ℕ) → k < n → code L (at p k) ≡ coef (codes L) v k)
      → ((k : ℕ) → n ≤ k → at p k ≡ 0) → len (codes L) v ≤ n → Is L p v
  is_below p v n h e z l = record {
    low = λ k. ⊎_elim (h k) (λ g. subst (λ (c : ℕ). c < m.size) (sym (z k g)) (zero_low L)) (cases_lt k n);
    is = ext (codes L) (value L p) v (λ k. coef_value p k ∙ ⊎_elim (e k) (λ g.
        ap (code L) (z k g) ∙ code_zero ∙ sym (coef_past (codes L) v k (omega arith))) (cases_lt k n));
  }

  -- from each coefficient below 128
  pub is_places : (p : Poly) (v : R L) → ((k : ℕ) → k < 128 → at p k < m.size) → ((k : ℕ) → k < 128 → code L (at p k) ≡ coef (codes L) v k)
      → len (codes L) v ≤ 128 → Is L p v
  is_places p v h e l = whole p v record { low = low_codes p h; is = e } l

  pub coef_constant : (c k : ℕ) → coef (codes L) (constant_p L c) k ≡ get_or (code L c ∷ []) k 𝟘
  unfolding constant_p
  coef_constant c k = coef_poly (codes L) (code L c ∷ []) k

  pub len_constant : (c : ℕ) → len (codes L) (constant_p L c) ≤ 1
  len_constant c = len_le (codes L) (constant_p L c) 1 (λ k h. coef_constant c k ∙ past k h)
    where
      past : (k : ℕ) → 1 ≤ k → get_or (code L c ∷ []) k 𝟘 ≡ 𝟘
      past zero h = absurd (omega arith)
      past (suc k) h = refl

pub size_le : (p : Poly) (n : ℕ) → ((k : ℕ) → n ≤ k → at p k ≡ 0) → size p ≤ n
size_le p n h = let b : ¬ (n < size p) = λ l. let pos : 0 < size p = omega arith in p.top pos (h (size p - 1) (omega arith)) in omega arith

-- the list of the coefficients: its length and what stands in it
pub coefficients_length : (p : Poly) → length (coefficients p) ≡ size p
coefficients_length p = length-take-le (size p) p.raw.coeffs (omega (arith, p.short, p.long))

pub coefficients_at : (p : Poly) (k : ℕ) → get_or (coefficients p) k 0 ≡ at p k
coefficients_at p k = ⊎_elim (get_or-take (size p) p.raw.coeffs k 0)
    (λ h. get_or_past (coefficients p) k 0 (omega (arith, coefficients_length p)) ∙ sym (p.past k h)) (cases_lt k (size p))

-- the coefficients as the top one and those below it
pub record Parts (p : Poly) (top : ℕ) (row : List ℕ) : Type 0 where
  pub size_is : size p ≡ length row + 1
  pub row_at : (k : ℕ) → k < length row → get_or row k 0 ≡ at p k
  pub top_at : at p (length row) ≡ top

pub parts : (p : Poly) (top : ℕ) (row : List ℕ) → IsLastAndRest (coefficients p) top row → Parts p top row
parts p top row e = record {
  size_is = omega (arith, e.1, coefficients_length p);
  row_at = λ k h. sym (get_or_append_left row (top ∷ []) 0 k h) ∙ ap (λ xs. get_or xs k 0) (sym e.0) ∙ coefficients_at p k;
  top_at = sym (coefficients_at p (length row)) ∙ ap (λ xs. get_or xs (length row) 0) e.0 ∙ get_or_at row top [] 0 (length row) refl;
}

-- equal coefficients, equal lengths
pub same_size : (p q : Poly) → p.raw.coeffs ≡ q.raw.coeffs → size p ≡ size q
same_size p q e =
    let a = size_le p (size q) (λ k h. ap (λ xs. get_or xs k 0) e ∙ q.past k h) in
    let b = size_le q (size p) (λ k h. ap (λ xs. get_or xs k 0) (sym e) ∙ p.past k h) in
    omega arith

-- what decides whether the coefficients are equal decides whether the polynomials are
pub decides : (p q : Poly) (r : Bool) → Decides r (p.raw.coeffs ≡ q.raw.coeffs) → Same p q r
decides p q r h = λ m L x y hx hy. ((λ e. same_value L hx hy (h.0 e)), λ e. h.1 (determined L (moved L hx e) hy).1)

-- the polynomial of a list of codes
pub listed : (cs : List ℕ) (p : Poly) → ((k : ℕ) → at p k ≡ get_or cs k 0) → Listed cs p
listed cs p h m L low = record {
  low = λ k. subst (λ (n : ℕ). n < m.size) (sym (h k)) (low k);
  is = ext (codes L) (value L p) (poly (codes L) (map (code L) cs)) (λ k. coef_value L p k ∙ ap (code L) (h k)
      ∙ sym (coef_poly (codes L) (map (code L) cs) k ∙ ap (λ (d : Code m). get_or (map (code L) cs) k d) (sym (code_zero L)) ∙ get_or-map (code L) cs k 0));
}
