-- The extension of a field by a square root w of its element n. With q for the size below, code a + q * b stands for
-- a + b w, and w * w = n. Nothing here asks that the field below is lawful.
use Rattle.std.specs.Prelude.{◌≡◌, ℕ, ◌+◌, ◌*◌, ◌/◌, ◌%◌, ◌<◌, ◌≤◌, cond, ◌⊎◌, Some, None, Option, ◌≢◌, nat_lt}
use Rattle.field.specs.Meaning.{Meaning}
use Rattle.field.specs.declared.refusal.Refusal.{Refusal}
use Rattle.field.specs.declared.refusal.Refusal.TheVariants.{TooLarge, NotACode, Square}

-- the code of a + b w, or 0 where a or b is no code below, as only an unlawful field answers
unfoldable pub packed : ℕ → ℕ → ℕ → ℕ
packed q a b = cond (nat_lt a q) (cond (nat_lt b q) (a + q * b) 0) 0

-- (a + b w) + (c + d w) = (a + c) + (b + d) w
unfoldable pub ext_sum : Meaning → ℕ → ℕ → ℕ → ℕ
ext_sum m q x y =
    cond (nat_lt x (q * q)) (cond (nat_lt y (q * q)) (packed q (m.sum (x % q) (y % q)) (m.sum (x / q) (y / q))) 0) 0

-- - (a + b w) = - a + (- b) w
unfoldable pub ext_opposite : Meaning → ℕ → ℕ → ℕ
ext_opposite m q x = cond (nat_lt x (q * q)) (packed q (m.opposite (x % q)) (m.opposite (x / q))) 0

-- (a + b w) * (c + d w) = (a c + n (b d)) + (a d + b c) w
unfoldable pub ext_product : Meaning → ℕ → ℕ → ℕ → ℕ → ℕ
ext_product m q n x y =
    cond (nat_lt x (q * q))
    (cond (nat_lt y (q * q))
    (packed q (m.sum (m.product (x % q) (y % q)) (m.product n (m.product (x / q) (y / q))))
    (m.sum (m.product (x % q) (y / q)) (m.product (x / q) (y % q))))
    0)
    0

-- the norm of a + b w, its product with a - b w: a a - n (b b)
abbrev pub ext_norm : Meaning → ℕ → ℕ → ℕ → ℕ
ext_norm m n a b = m.sum (m.product a a) (m.opposite (m.product n (m.product b b)))

-- (a - b w) * i, where i is the inverse of the norm, and absent with it
abbrev pub over_norm : Meaning → ℕ → ℕ → ℕ → Option ℕ → Option ℕ
over_norm m q a b None = None
over_norm m q a b (Some i) = Some (packed q (m.product a i) (m.product (m.opposite b) i))

-- 1 / (a + b w) = (a - b w) / (a a - n (b b))
unfoldable pub ext_inverse : Meaning → ℕ → ℕ → ℕ → Option ℕ
ext_inverse m q n x = cond (nat_lt x (q * q)) (over_norm m q (x % q) (x / q) (m.inverse (ext_norm m n (x % q) (x / q)))) None

-- the extension of m, whose size is q, by a square root of n
abbrev pub ext_meaning : Meaning → ℕ → ℕ → Meaning
ext_meaning m q n = record {
  size = q * q;
  sum = ext_sum m q;
  opposite = ext_opposite m q;
  product = ext_product m q n;
  inverse = ext_inverse m q n;
}

-- the extension of m by a square root of n
abbrev pub extended : Meaning → ℕ → Meaning
extended m n = ext_meaning m m.size n

-- the three questions of an extension, all with the answer yes: it is not too large, n is a code, and n is no square
pub record Extends (m : Meaning) (n : ℕ) : Type 0 where
  pub small : m.size * m.size ≤ 2147483647
  pub code : n < m.size
  pub no_root : (x : ℕ) → x < m.size → m.product x x ≢ n

-- e is the refusal of the first of them that has the answer no
abbrev pub Refuses : Meaning → ℕ → Refusal → Type 0
Refuses m n e =
    ((e ≡ TooLarge) × (2147483647 < m.size * m.size))
    ⊎ ((e ≡ NotACode) × (m.size * m.size ≤ 2147483647) × (m.size ≤ n))
    ⊎ ((e ≡ Square) × (m.size * m.size ≤ 2147483647) × (n < m.size) × ((x : ℕ) × (x < m.size) × (m.product x x ≡ n)))
