-- The ten moduli are prime: computed once, over the table. `suits_prime` serves any other odd prime up to 100003 too.
use Rattle.std.proofs.Common.{◌≡◌, ℕ, ◌*◌, ◌/◌, ◌%◌, ◌<◌, ◌≤◌, Bool, true, not, ◌&&◌, ◌||◌, eqb, ltb, leb, List, [], ◌∷◌, sym, refl, ap, ◌∙◌, ⊎_elim, mul-le-mul_right, mul-le-mul, mul-le-mul_left, arith}
use native.Mathlib.Nat.{div-add-mod, mul-mod_left}
use Rattle.std.proofs.lemmas.Bool.Decides.{nat_tests}
use Rattle.std.proofs.lemmas.Bool.{and_parts, or_cases, eqb-true, leb-true, cases_lt, true≢false}
use Rattle.std.specs.Prelude.{◌==◌}
use Rattle.std.specs.List.{list_all, list_any}
use Rattle.field.specs.Primes.{moduli, listed, PrimeNumber}
use Rattle.field.proofs.Below.{every_below, at_below}

-- k does not divide p, unless it is below 2 or not below p
abbrev pub fine : ℕ → ℕ → Bool
fine p k = leb p k || (ltb k 2 || not (eqb (p % k) 0))

-- the test of one modulus: no number from 2 to 317 and below p divides it, and 318 times 318 is above 100003
unfoldable pub suits : ℕ → Bool
suits p = (leb 3 p && leb p 100003) && every_below (fine p) 318

computed : list_all suits moduli ≡ true
unfolding suits every_below
computed = refl

from_fine : (p k : ℕ) → fine p k ≡ true → 2 ≤ k → k < p → p % k ≡ 0 → ⊥
from_fine p k h a b z = grind (arith, nat_tests)

-- a divisor from 318 up has a cofactor below 318
other : (p d : ℕ) → 3 ≤ p → p ≤ 100003 → ((k : ℕ) → k < 318 → fine p k ≡ true) → 318 ≤ d → d < p → p % d ≡ 0 → ⊥
other p d low high below l b z =
    let e : ℕ = p / d in
    let whole : d * e ≡ p = sym (omega (arith, div-add-mod p d)) in
    let two : 2 ≤ e = ⊎_elim (λ (s : e < 2). let t : d * e ≤ d * 1 = mul-le-mul_left d (omega arith) in absurd (omega arith)) (λ (s : 2 ≤ e). s) (cases_lt e 2) in
    let small : e < 318 = ⊎_elim (λ (s : e < 318). s) (λ (s : 318 ≤ e). let t : 318 * 318 ≤ d * e = mul-le-mul l s in absurd (omega arith)) (cases_lt e 318) in
    let less : e < p = let t : 318 * e ≤ d * e = mul-le-mul_right e l in omega arith in
    let none : p % e ≡ 0 = ap (λ x. x % e) (sym whole) ∙ mul-mod_left d e in
    from_fine p e (below e small) two less none

pub suits_prime : (p : ℕ) → suits p ≡ true → PrimeNumber p
unfolding suits
suits_prime p h =
    let parts = and_parts (leb 3 p && leb p 100003) (every_below (fine p) 318) h in
    let sides = and_parts (leb 3 p) (leb p 100003) parts.0 in
    let low : 3 ≤ p = leb-true 3 p sides.0 in
    let high : p ≤ 100003 = leb-true p 100003 sides.1 in
    record {
      low = low;
      high = high;
      no_divisor = λ d a b z. ⊎_elim
          (λ (l : d < 318). from_fine p d (at_below (fine p) 318 d parts.1 l) a b z)
          (λ (l : 318 ≤ d). other p d low high (λ k s. at_below (fine p) 318 k parts.1 s) l b z)
          (cases_lt d 318);
    }

listed_suits : (p : ℕ) (ms : List ℕ) → list_all suits ms ≡ true → listed p ms ≡ true → suits p ≡ true
unfolding listed
listed_suits p [] h l = absurd (true≢false (sym l))
listed_suits p (m ∷ ms) h l =
    let parts = and_parts (suits m) (list_all suits ms) h in
    ⊎_elim (λ e. ap suits (sym (eqb-true m p e)) ∙ parts.0) (λ r. listed_suits p ms parts.1 r) (or_cases (eqb m p) (listed p ms) l)

pub listed_prime : (p : ℕ) → listed p moduli ≡ true → PrimeNumber p
listed_prime p l = suits_prime p (listed_suits p moduli computed l)

pub listed_low : (p : ℕ) → listed p moduli ≡ true → 3 ≤ p
listed_low p l = (listed_prime p l).low

pub listed_high : (p : ℕ) → listed p moduli ≡ true → p ≤ 100003
listed_high p l = (listed_prime p l).high

-- the search of a slice for p
pub listed_any : (p : ℕ) (ms : List ℕ) → list_any (λ m. m == p) ms ≡ listed p ms
unfolding listed
listed_any p [] = refl
listed_any p (m ∷ ms) = ap (λ b. m == p || b) (listed_any p ms)
