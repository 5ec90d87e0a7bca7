-- A worked setting: over the field of 5 elements, D = x⁴ + x + 1 with d = x² and m = 2. What holds in it is one list of cases;
-- a new case is one more entry of the list, and a new kind of case one more constructor. Polynomials are written by the numbers
-- of their coefficients, low degree first: x + 3 is 3 ∷ 1 ∷ [].
use Rattle.std.specs.Prelude.{◌≡◌, List, [], ◌∷◌, ◌++◌, map, ℕ, ◌+◌}
use Rattle.std.specs.List.{AllByRecursion}
use Rattle.field.specs.Meaning.{Meaning, Lawful}
use Rattle.field.specs.Primes.{prime_meaning}
use Rattle.ring.proofs.PolyRing.{PolyRing}
use Rattle.ring.proofs.Poly.{poly}
use Rattle.algebra.specs.Codes.{code, codes, R, K}
use Rattle.algebra.specs.Settings.{Setting}
use Rattle.algebra.specs.Ideals.{Ideal, StandardForm}
use Rattle.algebra.specs.Products.{Product}
use Rattle.algebra.specs.Places.{Reduces, place, AddsTo}
use Rattle.algebra.specs.Lines.{Line, PlaceAt}

-- an ideal (Q, P), written
pub record Written : Type 0 where
  pub Q : List ℕ
  pub P : List ℕ

abbrev pub ideal : List ℕ → List ℕ → Written
ideal Q P = record { Q = Q; P = P }

pub data Case : Type 0 where
  -- number i of the line is a, at the distance δ
  line_at : (i : ℕ) (a : Written) (δ : ℕ) → Case
  -- the product of a and b reduces to c, with the shortfall −n
  product_to : (a b c : Written) (n : ℕ) → Case
  -- place t is a with the offset f
  place_at : (t : ℕ) (a : Written) (f : ℕ) → Case
  -- a with the offset f plus b with the offset g is c with the offset h
  sum_to : (a : Written) (f : ℕ) (b : Written) (g : ℕ) (c : Written) (h : ℕ) → Case

-- the product of a and b, brought to standard form and reduced, is c; the shortfall is −n = − deg s − saved
pub record ReducedProduct {C R : Type 0} (K : PolyRing C R) (S : Setting K) (a b c : Ideal K.r S.D) (n : ℕ) : Type 0 where
  pub s : R
  pub Qc : R
  pub Pc : R
  pub whole : Ideal K.r S.D
  pub saved : ℕ
  pub is_product : Product K S a b s Qc Pc
  pub is_standard : StandardForm K S Qc Pc whole
  pub is_reduced : Reduces K S whole c saved
  pub shortfall : n + 1 ≡ K.len s + saved

module _ {M : Meaning} (L : Lawful M) where
  -- the polynomial with these coefficients
  abbrev pub written : List ℕ → R L
  written l = poly (codes L) (map (code L) l)

  module _ (S : Setting (K L)) where
    -- a is the written ideal
    pub record Shows (a : Ideal (K L).r S.D) (w : Written) : Type 0 where
      pub Q_is : a.Q ≡ written w.Q
      pub P_is : a.P ≡ written w.P

    -- there is an ideal that is the written one and has the property
    abbrev pub ThereIs : Written → (Ideal (K L).r S.D → Type 0) → Type 0
    ThereIs w A = (a : Ideal (K L).r S.D) × Shows a w × A a

    abbrev pub Holds : Case → Type 0
    Holds (line_at i a δ) = ThereIs a (λ x. Line (K L) S i x δ)
    Holds (product_to a b c n) = ThereIs a (λ x. ThereIs b (λ y. ThereIs c (λ z. ReducedProduct (K L) S x y z n)))
    Holds (place_at t a f) = ThereIs a (λ x. PlaceAt (K L) S t (place (K L) S x f))
    Holds (sum_to a f b g c h) = ThereIs a (λ x. ThereIs b (λ y. ThereIs c (λ z.
        AddsTo (K L) S (place (K L) S x f) (place (K L) S y g) (place (K L) S z h))))

  -- the setting of the cases
  pub record Sample : Type 0 where
    pub setting : Setting (K L)
    pub D_is : setting.D ≡ written (1 ∷ 1 ∷ 0 ∷ 0 ∷ 1 ∷ [])
    pub d_is : setting.d ≡ written (0 ∷ 0 ∷ 1 ∷ [])
    pub m_is : setting.m ≡ 2

-- the ideals of the line
abbrev pub unit : Written
unit = ideal (1 ∷ []) []

abbrev pub i₁ : Written
i₁ = ideal (1 ∷ 1 ∷ []) (1 ∷ [])

abbrev pub i₂ : Written
i₂ = ideal (3 ∷ 1 ∷ []) (2 ∷ [])

abbrev pub i₃ : Written
i₃ = ideal (0 ∷ 1 ∷ []) (4 ∷ [])

abbrev pub i₄ : Written
i₄ = ideal (2 ∷ 1 ∷ []) []

abbrev pub i₅ : Written
i₅ = ideal (0 ∷ 1 ∷ []) (1 ∷ [])

abbrev pub i₆ : Written
i₆ = ideal (3 ∷ 1 ∷ []) (3 ∷ [])

abbrev pub i₇ : Written
i₇ = ideal (1 ∷ 1 ∷ []) (4 ∷ [])

-- the line, which is at (1) again at the distance 9
abbrev pub line_cases : List Case
line_cases = line_at 0 unit 0 ∷ line_at 1 i₁ 2 ∷ line_at 2 i₂ 3 ∷ line_at 3 i₃ 4 ∷ line_at 4 i₄ 5
    ∷ line_at 5 i₅ 6 ∷ line_at 6 i₆ 7 ∷ line_at 7 i₇ 8 ∷ line_at 8 unit 9 ∷ []

-- a product with a step of reduction, and one with a common divisor
abbrev pub product_cases : List Case
product_cases = product_to i₁ i₂ i₄ 0 ∷ product_to i₁ i₇ unit 1 ∷ []

-- places, and their sums: 1 + 1 = 2 and 2 + 8 = 10
abbrev pub place_cases : List Case
place_cases = place_at 1 unit 1 ∷ place_at 2 i₁ 0 ∷ place_at 8 i₇ 0 ∷ place_at 10 unit 1
    ∷ sum_to unit 1 unit 1 i₁ 0 ∷ sum_to i₁ 0 i₇ 0 unit 1 ∷ []

abbrev pub cases : List Case
cases = line_cases ++ product_cases ++ place_cases

-- the field of 5 elements is lawful, and however that is shown, there is the setting, and all cases hold in it
abbrev pub WorkedCases : Type 0
WorkedCases = Lawful (prime_meaning 5) × ((L : Lawful (prime_meaning 5)) → (s : Sample L) × AllByRecursion (Holds L s.setting) cases)
