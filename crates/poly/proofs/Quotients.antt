-- Division by rows: what stands after some digits.
use Rattle.std.proofs.Common.{◌≡◌, ℕ, ◌+◌, ◌-◌, ◌<◌, ◌≢◌, List, [], ◌∷◌, length, get_or, set, replicate, Some, None, sym, refl, ap, ◌∙◌, subst, ap₂, arith, get_or-set_other, get_or-set_same}
use Rattle.std.specs.List.{IsLastAndRest}
use mathlib.Core.Path.{fun_ext}
use native.Mathlib.Decide.{ℕ_discrete}
use Rattle.field.specs.Meaning.{Meaning, Lawful}
use Rattle.ring.proofs.Ring.{zero-⊗, zero-⊕}
use Rattle.ring.proofs.Quote.{quote, auto}
use Rattle.ring.proofs.Hypotheses.{by_hyp}
use Rattle.ring.proofs.Series.{conv, conv_zero}
use Rattle.ring.proofs.Poly.{add_p, mul_p, zero_p, Polynomials, coef, coef_add, coef_conv, ext}
use Rattle.algebra.specs.Codes.{Code, code, codes, ring_c, zero_low, R}
use Rattle.poly.specs.Rows.{Row}
use Rattle.poly.specs.Values.{at, size, coefficients, Is, value}
use Rattle.poly.specs.Rules.{Divided}
use Rattle.poly.specs.declared.poly.Poly.{Poly}
use Rattle.poly.proofs.Zeros.{zeros, set_zero}
use Rattle.poly.proofs.Bridge.{parts, at_is, self, coef_value, code_product, code_opposite, code_zero, code_one}
use Rattle.poly.proofs.Rows.{shift, shift_at, conv_step, row_low, row_is}

-- what the inverse of a code that is not 0 is
pub inverse_is : {m : Meaning} (L : Lawful m) (c u : ℕ) → 0 < c → c < m.size → Some u ≡ m.inverse c → (u < m.size) × (m.product c u ≡ 1)
inverse_is {m} L c u h l e =
    let t = L.inverse_there c h l in
    let q : t.0 ≡ u = cc (e, t.1) in
    (subst (λ (n : ℕ). n < m.size) q t.2, subst (λ (n : ℕ). m.product c n ≡ 1) q t.3)

pub inverse_some : {m : Meaning} (L : Lawful m) (c : ℕ) → 0 < c → c < m.size → None ≡ m.inverse c → ⊥
inverse_some {m} L c h l e =
    let t = L.inverse_there c h l in
    let z : ◌≡◌ {A = ℕ} 0 1 = cc (e, t.1) in absurd (omega arith)

code_pos : (b : Poly) (top : ℕ) (row : List ℕ) → IsLastAndRest (coefficients b) top row → 0 < at b (length row)
code_pos b top row e =
    let p = parts b top row e in
    let ne : at b (size b - 1) ≢ 0 = b.top (omega (arith, p.size_is)) in
    let k : size b - 1 ≡ length row = omega (arith, p.size_is) in
    let o : at b (size b - 1) ≡ at b (length row) = ap (at b) k in
    omega arith

module _ {m : Meaning} (L : Lawful m) (x y : R L) where
  infixl 60 ◌⊕◌
  infixl 70 ◌⊗◌
  infix 80 ⊖◌
  open ring_c L use {𝟘, 𝟙, ◌⊕◌, ⊖◌, ◌⊗◌, ⊕-zero}

  abbrev pub X : ℕ → Code m
  X = coef (codes L) x

  abbrev pub B : ℕ → Code m
  B = coef (codes L) y

  -- a list of numbers, read as codes
  abbrev pub read : List ℕ → ℕ → Code m
  read q = λ j. code L (get_or q j 0)

  -- the digits q so far, and the rest s
  pub record Partly (q s : List ℕ) : Type 0 where
    pub q_low : (k : ℕ) → get_or q k 0 < m.size
    pub s_low : (k : ℕ) → get_or s k 0 < m.size
    pub sums : (n : ℕ) → X n ≡ conv (ring_c L) (read q) B n ⊕ read s n

  pub start : (a : Poly) → Is L a x → Partly (replicate 128 0) a.raw.coeffs
  start a hx = record {
    q_low = λ k. subst (λ (c : ℕ). c < m.size) (sym (zeros 128 k)) (zero_low L);
    s_low = hx.low;
    sums = λ k. sym (ap₂ ◌⊕◌ (ap (λ (f : ℕ → Code m). conv (ring_c L) f B k) (fun_ext (λ j. ap (code L) (zeros 128 j) ∙ code_zero L)) ∙ conv_zero (ring_c L) k B)
        (at_is L hx k) ∙ zero-⊕ (ring_c L) (X k));
  }

  -- one digit d more, at i, which takes d x^i y away
  module _ (b : Poly) (hy : Is L b y) (top u i d : ℕ) (q s row r : List ℕ) (b_top : size b ≡ top + 1)
      (long : length row ≡ top) (row_at : (k : ℕ) → k < length row → get_or row k 0 ≡ at b k) (u_low : u < m.size) (u_is : m.product (at b top) u ≡ 1)
      (h : Partly q s) (d_is : d ≡ m.product (get_or s (i + top) 0) u) (q_long : i < length q) (q_none : get_or q i 0 ≡ 0) (f : Row m s i (m.opposite d) row r) where
    d_low : d < m.size
    d_low = subst (λ (c : ℕ). c < m.size) (sym d_is) (L.product_closed (get_or s (i + top) 0) u (h.s_low (i + top)) u_low)

    D : Code m
    D = code L d

    q_next : (k : ℕ) → Dec (k ≡ i) → get_or (set q i d) k 0 < m.size
    q_next k (yes e) = subst (λ (j : ℕ). get_or (set q i d) j 0 < m.size) (sym e) (rw get_or-set_same d_low)
    q_next k (no e) = rw get_or-set_other (h.q_low k)

    r_low : (k : ℕ) → get_or r k 0 < m.size
    r_low = row_low L b y hy s row r i (m.opposite d) row_at (L.opposite_closed d d_low) h.s_low f

    s_next : (k : ℕ) → Dec (k ≡ i + top) → get_or (set r (i + top) 0) k 0 < m.size
    s_next k (yes e) = subst (λ (j : ℕ). get_or (set r (i + top) 0) j 0 < m.size) (sym e) (subst (λ (c : ℕ). c < m.size) (sym (set_zero r (i + top))) (zero_low L))
    s_next k (no e) = rw get_or-set_other (r_low k)

    digits : (n : ℕ) → conv (ring_c L) (read (set q i d)) B n ≡ conv (ring_c L) (read q) B n ⊕ D ⊗ shift (ring_c L) i B n
    unfolding D
    digits n = conv_step (ring_c L) i n (read q) (read (set q i d)) B (code L d)
        (rw get_or-set_same (sym (ap (λ z. z ⊕ code L d) (ap (code L) q_none ∙ code_zero L) ∙ zero-⊕ (ring_c L) (code L d))))
        (λ k e. rw get_or-set_other refl)

    inverse : B top ⊗ code L u ≡ 𝟙
    inverse = ap (λ z. z ⊗ code L u) (sym (at_is L hy top)) ∙ sym (code_product L (at b top) u (hy.low top) u_low) ∙ ap (code L) u_is ∙ code_one L

    -- the rest's top coefficient goes
    gone : 𝟘 ≡ read s (i + top) ⊕ ⊖ D ⊗ B top
    unfolding D
    gone = by_hyp (ring_c L) (read s (i + top)) inverse (auto (ring_c L) (read s (i + top) ∷ B top ∷ code L u ∷ []) (search quote depth 20) tt)
        ∙ ap (λ z. read s (i + top) ⊕ ⊖ z ⊗ B top) (sym (ap (code L) d_is ∙ code_product L (get_or s (i + top) 0) u (h.s_low (i + top)) u_low))

    rest : (n : ℕ) → Dec (n ≡ i + top) → read (set r (i + top) 0) n ≡ read s n ⊕ ⊖ D ⊗ shift (ring_c L) i B n
    unfolding D
    rest n (yes e) = subst (λ (k : ℕ). read (set r (i + top) 0) k ≡ read s k ⊕ ⊖ D ⊗ shift (ring_c L) i B k) (sym e)
        (ap (code L) (set_zero r (i + top)) ∙ code_zero L ∙ gone ∙ ap (λ z. read s (i + top) ⊕ ⊖ D ⊗ z) (sym (shift_at (ring_c L) i top B)))
    rest n (no e) = rw get_or-set_other (row_is L b y hy s row r i (m.opposite d) row_at (L.opposite_closed d d_low) h.s_low f n (λ l. omega arith)
        ∙ ap (λ z. read s n ⊕ z ⊗ shift (ring_c L) i B n) (code_opposite L d d_low))

    pub again : Partly (set q i d) (set r (i + top) 0)
    again = record {
      q_low = λ k. q_next k (ℕ_discrete k i);
      s_low = λ k. s_next k (ℕ_discrete k (i + top));
      sums = λ n. h.sums n ∙ sym (ap₂ ◌⊕◌ (digits n) (rest n (ℕ_discrete n (i + top)))
          ∙ auto (ring_c L) (D ∷ shift (ring_c L) i B n ∷ conv (ring_c L) (read q) B n ∷ read s n ∷ []) (search quote depth 20) tt);
    }

  -- the same, in the words of the code
  pub step : (b : Poly) → Is L b y → (top u i d n : ℕ) (q s row r : List ℕ) → IsLastAndRest (coefficients b) top row → Some u ≡ m.inverse top
      → Partly q s → d ≡ m.product (get_or s (i + length row) 0) u → n ≡ m.opposite d → i < length q → get_or q i 0 ≡ 0 → Row m s i n row r
      → Partly (set q i d) (set r (i + length row) 0)
  step b hy top u i d n q s row r e u_is h d_is n_is long none f =
      let p = parts b top row e in
      let t = inverse_is L (at b (length row)) u (code_pos b top row e) (hy.low (length row)) (u_is ∙ ap m.inverse (sym p.top_at)) in
      again b hy (length row) u i d q s row r p.size_is refl p.row_at t.0 t.1 h d_is long none
      (subst (λ (c : ℕ). Row m s i c row r) n_is f)

  pub stuck : (b : Poly) → Is L b y → (top : ℕ) (row : List ℕ) → IsLastAndRest (coefficients b) top row → None ≡ m.inverse top → ⊥
  stuck b hy top row e n =
      let p = parts b top row e in
      inverse_some L (at b (length row)) (code_pos b top row e) (hy.low (length row)) (n ∙ ap m.inverse (sym p.top_at))

  pub finish : (q s : Poly) → Partly q.raw.coeffs s.raw.coeffs → Divided L x y q s
  finish q s h = record {
    quotient = value L q;
    remainder = value L s;
    quotient_is = self L q h.q_low;
    remainder_is = self L s h.s_low;
    sums = ext (codes L) x (add_p (codes L) (mul_p (codes L) (value L q) y) (value L s)) (λ n.
        h.sums n
        ∙ sym (coef_add (codes L) (mul_p (codes L) (value L q) y) (value L s) n
        ∙ ap₂ ◌⊕◌ (coef_conv (codes L) (value L q) y n
        ∙ ap (λ (t : ℕ → Code m). conv (ring_c L) t B n) (fun_ext (λ j. coef_value L q j)))
        (coef_value L s n)));
  }

  -- nothing is divided
  pub whole_rest : (a z : Poly) → Is L a x → Is L z (zero_p (codes L)) → Divided L x y z a
  unfolding Polynomials
  whole_rest a z hx hz = record {
    quotient = zero_p (codes L);
    remainder = x;
    quotient_is = hz;
    remainder_is = hx;
    sums = sym (ap (λ (t : R L). add_p (codes L) t x) (zero-⊗ (Polynomials (codes L)) y) ∙ zero-⊕ (Polynomials (codes L)) x);
  }
