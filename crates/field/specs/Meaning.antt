-- What a field's operations mean on codes, and the laws that make them a field.
use Rattle.std.specs.Prelude.{◌≡◌, ℕ, ◌<◌, ◌≤◌, Some, None, Option}

-- The size q and the four operations. An element is named by its code, a number below q. Since these are functions, equal
-- codes always get equal answers.
pub record Meaning : Type 0 where
  pub size : ℕ
  pub sum : ℕ → ℕ → ℕ
  pub opposite : ℕ → ℕ
  pub product : ℕ → ℕ → ℕ
  pub inverse : ℕ → Option ℕ

-- The laws. That 1 differs from 0 needs no law: they are different codes, and both are below q.
pub record Lawful (m : Meaning) : Type 0 where
  -- q is from 3 to 2147483647
  pub low : 3 ≤ m.size
  pub high : m.size ≤ 2147483647
  -- the answers for codes are codes
  pub sum_closed : (a b : ℕ) → a < m.size → b < m.size → m.sum a b < m.size
  pub opposite_closed : (a : ℕ) → a < m.size → m.opposite a < m.size
  pub product_closed : (a b : ℕ) → a < m.size → b < m.size → m.product a b < m.size
  -- the sum is associative and commutative, 0 is neutral, and an element plus its opposite is 0
  pub sum_assoc : (a b c : ℕ) → a < m.size → b < m.size → c < m.size → m.sum (m.sum a b) c ≡ m.sum a (m.sum b c)
  pub sum_comm : (a b : ℕ) → a < m.size → b < m.size → m.sum a b ≡ m.sum b a
  pub sum_zero : (a : ℕ) → a < m.size → m.sum a 0 ≡ a
  pub sum_opposite : (a : ℕ) → a < m.size → m.sum a (m.opposite a) ≡ 0
  -- the product is associative and commutative, and 1 is neutral
  pub product_assoc : (a b c : ℕ) → a < m.size → b < m.size → c < m.size → m.product (m.product a b) c ≡ m.product a (m.product b c)
  pub product_comm : (a b : ℕ) → a < m.size → b < m.size → m.product a b ≡ m.product b a
  pub product_one : (a : ℕ) → a < m.size → m.product a 1 ≡ a
  -- the product distributes over the sum
  pub distributes : (a b c : ℕ) → a < m.size → b < m.size → c < m.size → m.product a (m.sum b c) ≡ m.sum (m.product a b) (m.product a c)
  -- 0 has no inverse; every other element has one, and its product with it is 1
  pub inverse_zero : m.inverse 0 ≡ None
  pub inverse_there : (a : ℕ) → 0 < a → a < m.size → (b : ℕ) × (m.inverse a ≡ Some b) × (b < m.size) × (m.product a b ≡ 1)
  -- 1 + 1 differs from 0
  pub odd : m.sum 1 1 ≡ 0 → ⊥
  -- a number from q up, in either place, makes the answer 0 or the inverse absent
  pub sum_out : (a b : ℕ) → (m.size ≤ a → m.sum a b ≡ 0) × (m.size ≤ b → m.sum a b ≡ 0)
  pub opposite_out : (a : ℕ) → m.size ≤ a → m.opposite a ≡ 0
  pub product_out : (a b : ℕ) → (m.size ≤ a → m.product a b ≡ 0) × (m.size ≤ b → m.product a b ≡ 0)
  pub inverse_out : (a : ℕ) → m.size ≤ a → m.inverse a ≡ None
