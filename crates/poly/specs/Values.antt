-- The polynomial that a record stands for, over a lawful meaning of the field. A record holds codes, numbers below the field's
-- size; what it stands for is an element of the ring of polynomials over the field of codes.
use Rattle.std.specs.Prelude.{◌≡◌, ℕ, ◌<◌, List, [], ◌∷◌, map, take, slice_index}
use Rattle.field.specs.Meaning.{Meaning, Lawful}
use Rattle.ring.proofs.Poly.{poly, coef}
use Rattle.algebra.specs.Codes.{code, codes, R}
use Rattle.poly.specs.declared.poly.Poly.{Poly}

-- the coefficient at k, 0 past the end
abbrev pub at : Poly → ℕ → ℕ
at p k = slice_index p.raw.coeffs k

-- the length: how many coefficients there are up to the last that is not 0
abbrev pub size : Poly → ℕ
size p = p.raw.len

-- the coefficients as a list, the lowest first, up to the last that is not 0
abbrev pub coefficients : Poly → List ℕ
coefficients p = take (size p) p.raw.coeffs

-- every coefficient is a code of the field
abbrev pub Codes : Meaning → Poly → Type 0
Codes m p = (k : ℕ) → at p k < m.size

module _ {m : Meaning} (L : Lawful m) where
  -- the polynomial of the record's coefficients, a number that is no code read as 0
  unfoldable pub value : Poly → R L
  value p = poly (codes L) (map (code L) p.raw.coeffs)

  -- the record p stands for the polynomial v
  pub record Is (p : Poly) (v : R L) : Type 0 where
    pub low : Codes m p
    pub is : value p ≡ v

  -- the coefficients of p below 128 are those of v
  pub record Low (p : Poly) (v : R L) : Type 0 where
    pub low : Codes m p
    pub is : (k : ℕ) → k < 128 → code L (at p k) ≡ coef (codes L) v k

  -- the constant polynomial of a code
  unfoldable pub constant_p : ℕ → R L
  constant_p c = poly (codes L) (code L c ∷ [])
