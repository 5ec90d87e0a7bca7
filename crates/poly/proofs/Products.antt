-- Products by rows: what stands after the rows of the coefficients below i.
use Rattle.std.proofs.Common.{◌≡◌, ℕ, ◌+◌, ◌<◌, ◌≤◌, List, [], ◌∷◌, length, get_or, replicate, sym, ap, ◌∙◌, subst, ap₂, ⊎_elim, add-one, arith}
use mathlib.Core.Path.{fun_ext}
use Rattle.std.proofs.lemmas.Bool.{cases_lt}
use Rattle.std.proofs.lemmas.List.{get_or_past}
use Rattle.field.specs.Meaning.{Meaning, Lawful}
use Rattle.ring.proofs.Ring.{neg-⊗, zero-⊕}
use Rattle.ring.proofs.Quote.{quote, auto}
use Rattle.ring.proofs.Series.{conv, conv_zero, conv_comm}
use Rattle.ring.proofs.Poly.{add_p, neg_p, mul_p, zero_p, Polynomials, coef, coef_add, coef_conv}
use Rattle.ring.proofs.Sizes.{len, len_le, len_add, len_neg, len_mul, coef_past, zero_poly?}
use Rattle.algebra.specs.Codes.{Code, code, codes, ring_c, zero_low, R}
use Rattle.poly.specs.Rows.{Row, Grown, Added}
use Rattle.poly.specs.Values.{at, size, Is}
use Rattle.poly.specs.Rules.{LowProduct, Product, LowLess, Less, Opposite}
use Rattle.poly.specs.declared.poly.Poly.{Poly}
use Rattle.poly.proofs.Zeros.{zeros}
use Rattle.poly.proofs.Bridge.{whole, at_is, len_is, len_low, code_zero}
use Rattle.poly.proofs.Rows.{shift, upto, upto_below, upto_past, conv_upto, row_low, row_is}

module _ {m : Meaning} (L : Lawful m) (x y : R L) where
  infixl 60 ◌⊕◌
  infixl 70 ◌⊗◌
  open ring_c L use {𝟘, 𝟙, ◌⊕◌, ◌⊗◌, ⊕-zero}

  -- the coefficient at k of the product of y and the coefficients of x below i
  abbrev pub part : ℕ → ℕ → Code m
  part i k = conv (ring_c L) (upto (ring_c L) (coef (codes L) x) i) (coef (codes L) y) k

  pub record Partial (old : List ℕ) (i : ℕ) (new : List ℕ) : Type 0 where
    pub low : (k : ℕ) → get_or new k 0 < m.size
    pub is : (k : ℕ) → k < 128 → code L (get_or new k 0) ≡ code L (get_or old k 0) ⊕ part i k

  pub start : (old : List ℕ) → ((k : ℕ) → get_or old k 0 < m.size) → Partial old 0 old
  start old low = record {
    low = low;
    is = λ k _. sym (ap (λ (f : ℕ → Code m). code L (get_or old k 0) ⊕ conv (ring_c L) f (coef (codes L) y) k)
        (fun_ext (λ j. upto_past (ring_c L) (coef (codes L) x) 0 j (omega arith)))
        ∙ ap (λ z. code L (get_or old k 0) ⊕ z) (conv_zero (ring_c L) k (coef (codes L) y)) ∙ ⊕-zero _);
  }

  -- one row more
  pub again : (a b : Poly) → Is L a x → Is L b y → (old mid row new : List ℕ) (i c : ℕ) → c ≡ at a i → ((k : ℕ) → k < length row → get_or row k 0 ≡ at b k)
      → ((k : ℕ) → k < 128 → i + length row ≤ k → i + size b ≤ k) → Partial old i mid → Row m mid i c row new → Partial old (i + 1) new
  again a b hx hy old mid row new i c c_is row_at all h f = record {
    low = row_low L b y hy mid row new i (at a i) row_at (hx.low i) h.low r;
    is = λ k g.
        row_is L b y hy mid row new i (at a i) row_at (hx.low i) h.low r k (all k g)
        ∙ ap₂ (λ z w. z ⊕ w ⊗ shift (ring_c L) i (coef (codes L) y) k) (h.is k g) (at_is L hx i)
        ∙ auto (ring_c L) (code L (get_or old k 0) ∷ part i k ∷ coef (codes L) x i ∷ shift (ring_c L) i (coef (codes L) y) k ∷ []) (search quote depth 20) tt
        ∙ ap (λ z. code L (get_or old k 0) ⊕ z) (sym (conv_upto (ring_c L) i k (coef (codes L) x) (coef (codes L) y)))
        ∙ ap (λ (j : ℕ). code L (get_or old k 0) ⊕ part j k) (sym (add-one i));
  }
    where
      r : Row m mid i (at a i) row new
      r = subst (λ (z : ℕ). Row m mid i z row new) c_is f

  -- all rows
  pub finish : (a : Poly) → Is L a x → (old new : List ℕ) (i : ℕ) → size a ≤ i → Partial old i new → Grown L old (mul_p (codes L) x y) new
  finish a hx old new i l h = record {
    low = h.low;
    is = λ k g. h.is k g ∙ ap (λ z. code L (get_or old k 0) ⊕ z)
        (ap (λ (f : ℕ → Code m). conv (ring_c L) f (coef (codes L) y) k) (fun_ext all) ∙ sym (coef_conv (codes L) x y k));
  }
    where
      all : (j : ℕ) → upto (ring_c L) (coef (codes L) x) i j ≡ coef (codes L) x j
      all j = ⊎_elim (upto_below (ring_c L) (coef (codes L) x) i j)
          (λ g. upto_past (ring_c L) (coef (codes L) x) i j g ∙ sym (coef_past (codes L) x j (omega (arith, len_is L hx)))) (cases_lt j i)

  -- the length of a product
  pub len_product : (n : ℕ) → len (codes L) x + len (codes L) y ≤ n + 1 → len (codes L) (mul_p (codes L) x y) ≤ n
  len_product n h = len_le (codes L) (mul_p (codes L) x y) n (λ k g. coef_conv (codes L) x y k ∙ past k g)
    where
      past : (k : ℕ) → n ≤ k → conv (ring_c L) (coef (codes L) x) (coef (codes L) y) k ≡ 𝟘
      past k g = go (zero_poly? (codes L) x) (zero_poly? (codes L) y)
        where
          go : Dec (x ≡ zero_p (codes L)) → Dec (y ≡ zero_p (codes L)) → conv (ring_c L) (coef (codes L) x) (coef (codes L) y) k ≡ 𝟘
          go (yes e) d = ap (λ (w : R L). conv (ring_c L) (coef (codes L) w) (coef (codes L) y) k) e ∙ conv_zero (ring_c L) k (coef (codes L) y)
          go (no e) (yes d) = ap (λ (w : R L). conv (ring_c L) (coef (codes L) x) (coef (codes L) w) k) d ∙ conv_comm (ring_c L) k _ _ ∙ conv_zero (ring_c L) k (coef (codes L) x)
          go (no e) (no d) = sym (coef_conv (codes L) x y k) ∙ coef_past (codes L) (mul_p (codes L) x y) k (omega (arith, len_mul (codes L) x y e d))

-- 0 stays 0 past the product, and past the array
pub added_past : {m : Meaning} {a b : Poly} {old new : List ℕ} → Added m old a b new → length new ≡ 128 → (k : ℕ) → (k < 128 → size a + size b ≤ k)
    → get_or old k 0 ≡ 0 → get_or new k 0 ≡ 0
added_past {new = new} h l k past z = ⊎_elim (λ g. h.past k (past g) ∙ z) (λ g. get_or_past new k 0 (omega arith)) (cases_lt k 128)

-- what was added to zeros
pub low_product : (m : Meaning) (a b r : Poly) → Added m (replicate 128 0) a b r.raw.coeffs → LowProduct m a b r
low_product m a b r h L x y hx hy = record {
  low = grown.low;
  is = λ k g. grown.is k g ∙ ap (λ z. (ring_c L).◌⊕◌ z (coef (codes L) (mul_p (codes L) x y) k)) (ap (code L) (zeros 128 k) ∙ code_zero L)
      ∙ zero-⊕ (ring_c L) (coef (codes L) (mul_p (codes L) x y) k);
}
  where
    grown : Grown L (replicate 128 0) (mul_p (codes L) x y) r.raw.coeffs
    grown = h.grown L x y hx hy (λ k. subst (λ (c : ℕ). c < m.size) (sym (zeros 128 k)) (zero_low L))

pub exact_product : (m : Meaning) (a b r : Poly) → LowProduct m a b r → Product m a b r
exact_product m a b r h L x y hx hy l =
    whole L r (mul_p (codes L) x y) (h L x y hx hy)
    (len_product L x y 128 (omega (arith, len_is L hx, len_is L hy)))

-- where the product of the opposite was added to a
pub low_less : (m : Meaning) (a p n b r : Poly) → Opposite m p n → Added m a.raw.coeffs n b r.raw.coeffs → LowLess m a p b r
unfolding Polynomials
low_less m a p n b r hn h L x w y hx hw hy = record {
  low = grown.low;
  is = λ k g. grown.is k g ∙ ap₂ (ring_c L).◌⊕◌ (at_is L hx k)
      (ap (λ (v : R L). coef (codes L) v k) (neg-⊗ (Polynomials (codes L)) w y))
      ∙ sym (coef_add (codes L) x (neg_p (codes L) (mul_p (codes L) w y)) k);
}
  where
    grown : Grown L a.raw.coeffs (mul_p (codes L) (neg_p (codes L) w) y) r.raw.coeffs
    grown = h.grown L (neg_p (codes L) w) y (hn L w hw) hy hx.low

pub exact_less : (m : Meaning) (a p b r : Poly) → LowLess m a p b r → Less m a p b r
exact_less m a p b r h L x w y hx hw hy l =
    whole L r (add_p (codes L) x (neg_p (codes L) (mul_p (codes L) w y))) (h L x w y hx hw hy)
    (len_add (codes L) x (neg_p (codes L) (mul_p (codes L) w y)) 128 (len_low L hx)
    (omega (arith, len_neg (codes L) (mul_p (codes L) w y), len_product L w y 128 (omega (arith, len_is L hw, len_is L hy)))))
