-- What is proved of polynomials over a coefficient field: one record for each theorem, over any field, and below them the
-- theorems themselves, over the codes of every lawful meaning. A polynomial is a list of coefficients, low degree first, with
-- no zero at its end. Its length is its degree + 1, and 0 for the polynomial 0.
use Rattle.std.specs.Prelude.{◌≡◌, ◌≢◌, ℕ, suc, ◌+◌, ◌≤◌, ◌<◌}
use Rattle.field.specs.Meaning.{Meaning, Lawful}
use Rattle.ring.proofs.Ring.{Divides}
use Rattle.ring.proofs.Field.{Field}
use Rattle.ring.proofs.Series.{conv}
use Rattle.ring.proofs.Poly.{Poly, Polynomials, coef}
use Rattle.ring.proofs.Sizes.{len}
use Rattle.ring.proofs.Derive.{num, der}
use Rattle.algebra.specs.Codes.{codes}

module _ {C : Type 0} (F : Field C) where
  infixl 60 ◌⊕◌ ◌⊕ᶜ◌
  infixl 70 ◌⊗◌ ◌⊗ᶜ◌
  infix 80 ⊖◌ ⊖ᶜ◌
  open F.ring use {𝟘 as 𝟘ᶜ, 𝟙 as 𝟙ᶜ, ◌⊕◌ as ◌⊕ᶜ◌, ⊖◌ as ⊖ᶜ◌, ◌⊗◌ as ◌⊗ᶜ◌}
  open Polynomials F use {𝟘, 𝟙, ◌⊕◌, ⊖◌, ◌⊗◌}

  abbrev P : Type 0
  P = Poly F

  -- sums, opposites and products by their coefficients: coefficient n of a product is the sum of the products of coefficients
  -- i and n − i
  pub record Operations : Type 0 where
    pub zero : (n : ℕ) → coef F 𝟘 n ≡ 𝟘ᶜ
    pub one : coef F 𝟙 0 ≡ 𝟙ᶜ
    pub one_past : (n : ℕ) → coef F 𝟙 (suc n) ≡ 𝟘ᶜ
    pub sum : (p q : P) (n : ℕ) → coef F (p ⊕ q) n ≡ coef F p n ⊕ᶜ coef F q n
    pub opposite : (p : P) (n : ℕ) → coef F (⊖ p) n ≡ ⊖ᶜ coef F p n
    pub product : (p q : P) (n : ℕ) → coef F (p ⊗ q) n ≡ conv F.ring (coef F p) (coef F q) n

  -- the laws of a commutative ring
  pub record RingLaws : Type 0 where
    pub sum_assoc : (p q s : P) → (p ⊕ q) ⊕ s ≡ p ⊕ (q ⊕ s)
    pub sum_comm : (p q : P) → p ⊕ q ≡ q ⊕ p
    pub sum_zero : (p : P) → p ⊕ 𝟘 ≡ p
    pub sum_opposite : (p : P) → p ⊕ ⊖ p ≡ 𝟘
    pub product_assoc : (p q s : P) → (p ⊗ q) ⊗ s ≡ p ⊗ (q ⊗ s)
    pub product_comm : (p q : P) → p ⊗ q ≡ q ⊗ p
    pub product_one : (p : P) → p ⊗ 𝟙 ≡ p
    pub distributes : (p q s : P) → p ⊗ (q ⊕ s) ≡ p ⊗ q ⊕ p ⊗ s

  -- polynomials with the same coefficients are equal; past the length all coefficients are 0, and the length is the least such
  pub record Coefficients : Type 0 where
    pub decide : (p q : P) → ((n : ℕ) → coef F p n ≡ coef F q n) → p ≡ q
    pub past : (p : P) (n : ℕ) → len F p ≤ n → coef F p n ≡ 𝟘ᶜ
    pub least : (p : P) (n : ℕ) → ((k : ℕ) → n ≤ k → coef F p k ≡ 𝟘ᶜ) → len F p ≤ n

  -- lengths of sums and products, so that there are no zero divisors
  pub record Lengths : Type 0 where
    pub empty : (p : P) → len F p ≡ 0 → p ≡ 𝟘
    pub sum : (p q : P) (n : ℕ) → len F p ≤ n → len F q ≤ n → len F (p ⊕ q) ≤ n
    pub sum_longer : (p q : P) → len F q < len F p → len F (p ⊕ q) ≡ len F p
    pub opposite : (p : P) → len F (⊖ p) ≡ len F p
    pub product : (p q : P) → p ≢ 𝟘 → q ≢ 𝟘 → len F (p ⊗ q) + 1 ≡ len F p + len F q
    pub no_zero_divisors : (p q : P) → p ≢ 𝟘 → q ≢ 𝟘 → p ⊗ q ≢ 𝟘

  -- the leading coefficient is not 0, that of a product is the product of those of the factors, and every polynomial but 0 can
  -- be scaled by a constant to have the leading coefficient 1
  pub record Leading : Type 0 where
    pub alive : (p : P) (n : ℕ) → len F p ≡ n + 1 → coef F p n ≢ 𝟘ᶜ
    pub product : (p q : P) (n k : ℕ) → len F p ≡ n + 1 → len F q ≡ k + 1 → coef F (p ⊗ q) (n + k) ≡ coef F p n ⊗ᶜ coef F q k
    pub monic : (p : P) (n : ℕ) → len F p ≡ n + 1 → (c : P) × (len F c ≡ 1) × (coef F (c ⊗ p) n ≡ 𝟙ᶜ)

  -- division by b: quotient q and remainder s
  pub record Division (a b : P) : Type 0 where
    pub q : P
    pub s : P
    pub is : a ≡ q ⊗ b ⊕ s
    pub short : len F s < len F b

  pub record Divisions : Type 0 where
    pub exists : (a b : P) → b ≢ 𝟘 → Division a b
    pub one_quotient : (a b : P) (δ ε : Division a b) → δ.q ≡ ε.q
    pub one_remainder : (a b : P) (δ ε : Division a b) → δ.s ≡ ε.s

  -- a common divisor of a and b that is x·a + y·b: every common divisor divides it
  pub record Bezout (a b : P) : Type 0 where
    pub g : P
    pub x : P
    pub y : P
    pub is : g ≡ x ⊗ a ⊕ y ⊗ b
    pub left : Divides (Polynomials F) g a
    pub right : Divides (Polynomials F) g b

  pub record Gcds : Type 0 where
    pub exists : (a b : P) → Bezout a b
    pub greatest : (a b c : P) (β : Bezout a b) → Divides (Polynomials F) c a → Divides (Polynomials F) c b
        → Divides (Polynomials F) c β.g

  -- the derivative: coefficient n is (n + 1) times coefficient n + 1, where a number k is 1 added k times
  pub record Derivatives : Type 0 where
    pub coefficient : (p : P) (n : ℕ) → coef F (der F p) n ≡ num F.ring (suc n) ⊗ᶜ coef F p (suc n)
    pub sum : (p q : P) → der F (p ⊕ q) ≡ der F p ⊕ der F q
    pub product : (p q : P) → der F (p ⊗ q) ≡ der F p ⊗ q ⊕ p ⊗ der F q

  -- where g·g divides D, g divides D and its derivative; so if these have only constants for common divisors, g is one
  pub record SquareFactors : Type 0 where
    pub divides : (D g h : P) → D ≡ (g ⊗ g) ⊗ h → Divides (Polynomials F) g D × Divides (Polynomials F) g (der F D)
    pub constant : (D x y g h : P) → x ⊗ D ⊕ y ⊗ der F D ≡ 𝟙 → D ≡ (g ⊗ g) ⊗ h → len F g ≡ 1

-- The theorems.
abbrev pub PolynomialsAreARing : Type 0
PolynomialsAreARing = (M : Meaning) (L : Lawful M) → Operations (codes L) × RingLaws (codes L)

abbrev pub CoefficientsDecide : Type 0
CoefficientsDecide = (M : Meaning) (L : Lawful M) → Coefficients (codes L)

abbrev pub LengthsAdd : Type 0
LengthsAdd = (M : Meaning) (L : Lawful M) → Lengths (codes L)

abbrev pub LeadingCoefficientsMultiply : Type 0
LeadingCoefficientsMultiply = (M : Meaning) (L : Lawful M) → Leading (codes L)

abbrev pub DivisionIsOne : Type 0
DivisionIsOne = (M : Meaning) (L : Lawful M) → Divisions (codes L)

abbrev pub GcdsHaveMultipliers : Type 0
GcdsHaveMultipliers = (M : Meaning) (L : Lawful M) → Gcds (codes L)

abbrev pub DerivativeRules : Type 0
DerivativeRules = (M : Meaning) (L : Lawful M) → Derivatives (codes L)

abbrev pub SquareFactorsAreShared : Type 0
SquareFactorsAreShared = (M : Meaning) (L : Lawful M) → SquareFactors (codes L)
