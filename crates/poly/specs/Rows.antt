-- Rows of a product: what is added to coefficients that are worked on in place.
use Rattle.std.specs.Prelude.{◌≡◌, ℕ, ◌+◌, ◌<◌, ◌≤◌, List, length, slice_index}
use Rattle.field.specs.Meaning.{Meaning, Lawful}
use Rattle.ring.proofs.Poly.{coef}
use Rattle.algebra.specs.Codes.{code, codes, ring_c, R}
use Rattle.poly.specs.Signs.{◌⊗◌}
use Rattle.poly.specs.Values.{size, Is}
use Rattle.poly.specs.declared.poly.Poly.{Poly}

-- c x^i times the coefficients `row` was added to `old`
pub record Row (m : Meaning) (old : List ℕ) (i c : ℕ) (row new : List ℕ) : Type 0 where
  pub before : (k : ℕ) → k < i → slice_index new k ≡ slice_index old k
  pub inside : (k : ℕ) → k < length row → slice_index new (i + k) ≡ m.sum (slice_index old (i + k)) (m.product c (slice_index row k))
  pub after : (k : ℕ) → i + length row ≤ k → slice_index new k ≡ slice_index old k

-- the polynomial v was added to `old`, below 128
pub record Grown {m : Meaning} (L : Lawful m) (old : List ℕ) (v : R L) (new : List ℕ) : Type 0 where
  pub low : (k : ℕ) → slice_index new k < m.size
  pub is : (k : ℕ) → k < 128 → code L (slice_index new k) ≡ (ring_c L).◌⊕◌ (code L (slice_index old k)) (coef (codes L) v k)

-- the product of a and b was added to `old`
pub record Added (m : Meaning) (old : List ℕ) (a b : Poly) (new : List ℕ) : Type 0 where
  pub past : (k : ℕ) → size a + size b ≤ k → slice_index new k ≡ slice_index old k
  pub grown : (L : Lawful m) (x y : R L) → Is L a x → Is L b y → ((k : ℕ) → slice_index old k < m.size) → Grown L old (x ⊗ y) new
