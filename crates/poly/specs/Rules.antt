-- What the operations on records mean: the ring operations on the polynomials that they stand for.
-- Each rule is a relation between the records that go in and the record that comes out, over a lawful meaning m of the field:
-- whatever polynomials x and y the operands stand for, the result stands for their sum, their product and so on.
use Rattle.std.specs.Prelude.{◌≡◌, ℕ, ◌+◌, ◌-◌, ◌<◌, ◌≤◌, Bool, List, map, Decides, slice_index}
use Rattle.field.specs.Meaning.{Meaning, Lawful}
use Rattle.ring.proofs.Poly.{zero_p, one_p, poly}
use Rattle.ring.proofs.Derive.{der}
use Rattle.algebra.specs.Codes.{code, codes, R}
use Rattle.poly.specs.Signs.{◌⊕◌, ◌⊗◌, ⊖◌}
use Rattle.poly.specs.Values.{at, size, Codes, Is, Low, constant_p}
use Rattle.poly.specs.declared.poly.Poly.{Poly}

-- r is the polynomial 0, over every field
abbrev pub Zero : Poly → Type 0
Zero r = (m : Meaning) (L : Lawful m) → Is L r (zero_p (codes L))

-- r is the polynomial 1, over every field
abbrev pub One : Poly → Type 0
One r = (m : Meaning) (L : Lawful m) → Is L r (one_p (codes L))

-- r is the constant c, over every field in which c is a code
abbrev pub Constant : ℕ → Poly → Type 0
Constant c r = (m : Meaning) (L : Lawful m) → c < m.size → Is L r (constant_p L c)

-- r is the polynomial of a list of codes, the lowest first
abbrev pub Listed : List ℕ → Poly → Type 0
Listed cs r = (m : Meaning) (L : Lawful m) → ((k : ℕ) → slice_index cs k < m.size) → Is L r (poly (codes L) (map (code L) cs))

-- r = a + b
abbrev pub Sum : Meaning → Poly → Poly → Poly → Type 0
Sum m a b r = (L : Lawful m) (x y : R L) → Is L a x → Is L b y → Is L r (x ⊕ y)

-- r = -a
abbrev pub Opposite : Meaning → Poly → Poly → Type 0
Opposite m a r = (L : Lawful m) (x : R L) → Is L a x → Is L r (⊖ x)

-- r = a - b
abbrev pub Difference : Meaning → Poly → Poly → Poly → Type 0
Difference m a b r = (L : Lawful m) (x y : R L) → Is L a x → Is L b y → Is L r (x ⊕ ⊖ y)

-- r = c a, for a code c
abbrev pub Scaled : Meaning → ℕ → Poly → Poly → Type 0
Scaled m c a r = (L : Lawful m) (x : R L) → c < m.size → Is L a x → Is L r (constant_p L c ⊗ x)

-- the coefficients of r below 128 are those of the product a b
abbrev pub LowProduct : Meaning → Poly → Poly → Poly → Type 0
LowProduct m a b r = (L : Lawful m) (x y : R L) → Is L a x → Is L b y → Low L r (x ⊗ y)

-- r = a b, where the product has at most 128 coefficients
abbrev pub Product : Meaning → Poly → Poly → Poly → Type 0
Product m a b r = (L : Lawful m) (x y : R L) → Is L a x → Is L b y → size a + size b ≤ 129 → Is L r (x ⊗ y)

-- the coefficients of r below 128 are those of a - p b
abbrev pub LowLess : Meaning → Poly → Poly → Poly → Poly → Type 0
LowLess m a p b r = (L : Lawful m) (x w y : R L) → Is L a x → Is L p w → Is L b y → Low L r (x ⊕ ⊖ (w ⊗ y))

-- r = a - p b, where the product has at most 128 coefficients
abbrev pub Less : Meaning → Poly → Poly → Poly → Poly → Type 0
Less m a p b r = (L : Lawful m) (x w y : R L) → Is L a x → Is L p w → Is L b y → size p + size b ≤ 129 → Is L r (x ⊕ ⊖ (w ⊗ y))

-- r is the derivative of a: its coefficient at k is that of a at k + 1, taken k + 1 times
abbrev pub Derivative : Meaning → Poly → Poly → Type 0
Derivative m a r = (L : Lawful m) (x : R L) → Is L a x → Is L r (der (codes L) x)

-- x = q y + r
pub record Divided {m : Meaning} (L : Lawful m) (x y : R L) (q r : Poly) : Type 0 where
  pub quotient : R L
  pub remainder : R L
  pub quotient_is : Is L q quotient
  pub remainder_is : Is L r remainder
  pub sums : x ≡ quotient ⊗ y ⊕ remainder

-- a = q b + r. With a remainder shorter than the divisor there is one quotient and one remainder
abbrev pub Division : Meaning → Poly → Poly → Poly → Poly → Type 0
Division m a b q r = (L : Lawful m) (x y : R L) → Is L a x → Is L b y → Divided L x y q r

-- nothing was divided: the quotient is 0 and the remainder is a
abbrev pub Undivided : Poly → Poly → Poly → Type 0
Undivided a q r = ((k : ℕ) → at q k ≡ 0) × ((k : ℕ) → at r k ≡ at a k)

-- u is the inverse of the leading coefficient; 1 where there is none
abbrev pub TopInverse : Meaning → Poly → ℕ → Type 0
TopInverse m a u = (L : Lawful m) → Codes m a
    → (u < m.size) × (0 < size a → m.product (at a (size a - 1)) u ≡ 1) × (size a ≡ 0 → u ≡ 1)

-- the leading coefficient is 1, unless the polynomial is 0
abbrev pub TopOne : Poly → Type 0
TopOne r = 0 < size r → at r (size r - 1) ≡ 1

-- x is a multiple of d
abbrev pub Divides : {m : Meaning} (L : Lawful m) → R L → R L → Type 0
Divides L d x = (w : R L) × (x ≡ w ⊗ d)

-- r and x are multiples of one another, and the leading coefficient of r is 1. So r is 0 where x is 0
pub record MadeMonic {m : Meaning} (L : Lawful m) (x : R L) (r : Poly) : Type 0 where
  pub made : R L
  pub is : Is L r made
  pub up : Divides L x made
  pub down : Divides L made x
  pub top : TopOne r

-- r is the monic form of a
abbrev pub Monic : Meaning → Poly → Poly → Type 0
Monic m a r = (L : Lawful m) (x : R L) → Is L a x → MadeMonic L x r

-- d = u x + v y divides x and y, every common divisor divides it, and its leading coefficient is 1. Where x and y are both 0 it is 0
pub record Combined {m : Meaning} (L : Lawful m) (x y : R L) (p q g : Poly) : Type 0 where
  pub u : R L
  pub v : R L
  pub d : R L
  pub p_is : Is L p u
  pub q_is : Is L q v
  pub g_is : Is L g d
  pub sums : d ≡ u ⊗ x ⊕ v ⊗ y
  pub left : Divides L d x
  pub right : Divides L d y
  pub greatest : (w : R L) → Divides L w x → Divides L w y → Divides L w d
  pub top : TopOne g

-- g is the greatest common divisor of a and b, with multipliers p and q: g = p a + q b
abbrev pub Common : Meaning → Poly → Poly → Poly → Poly → Poly → Type 0
Common m a b p q g = (L : Lawful m) (x y : R L) → Is L a x → Is L b y → Combined L x y p q g

-- r says whether a and b are the same polynomial
abbrev pub Same : Poly → Poly → Bool → Type 0
Same a b r = (m : Meaning) (L : Lawful m) (x y : R L) → Is L a x → Is L b y → Decides r (x ≡ y)
