-- The ten moduli, and arithmetic modulo p on the codes below p. A number from p up makes the answer 0, or the inverse absent.
use Rattle.std.specs.Prelude.{ℕ, zero, suc, ◌+◌, ◌-◌, ◌*◌, ◌%◌, ◌<◌, ◌≤◌, Bool, false, cond, ◌||◌, List, [], ◌∷◌, Some, None, Option, ◌==◌, ◌≢◌, nat_eq, nat_lt}
use Rattle.field.specs.Meaning.{Meaning}

-- the primes whose fields can be made
abbrev pub moduli : List ℕ
moduli = 3 ∷ 5 ∷ 7 ∷ 11 ∷ 13 ∷ 17 ∷ 251 ∷ 10007 ∷ 65521 ∷ 100003 ∷ []

-- whether p is one of the numbers
unfoldable pub listed : ℕ → List ℕ → Bool
listed p [] = false
listed p (m ∷ ms) = m == p || listed p ms

-- p is an odd prime, no larger than the largest modulus: no number from 2 up and below p divides it
pub record PrimeNumber (p : ℕ) : Type 0 where
  pub low : 3 ≤ p
  pub high : p ≤ 100003
  pub no_divisor : (d : ℕ) → 2 ≤ d → d < p → p % d ≢ 0

-- the least number below k that passes the test
unfoldable pub least : (ℕ → Bool) → ℕ → Option ℕ
least test zero = None
least test (suc k) = elim (least test k) [ Some x ↦ Some x | None ↦ cond (test k) (Some k) None ]

-- the sum modulo p
unfoldable pub sum_mod : ℕ → ℕ → ℕ → ℕ
sum_mod p a b = cond (nat_lt a p) (cond (nat_lt b p) ((a + b) % p) 0) 0

-- p - a, and 0 at 0
unfoldable pub opposite_mod : ℕ → ℕ → ℕ
opposite_mod p a = cond (nat_lt a p) ((p - a) % p) 0

-- the product modulo p
unfoldable pub product_mod : ℕ → ℕ → ℕ → ℕ
product_mod p a b = cond (nat_lt a p) (cond (nat_lt b p) ((a * b) % p) 0) 0

-- the code below p whose product with a is 1 modulo p, if there is one
unfoldable pub inverse_mod : ℕ → ℕ → Option ℕ
inverse_mod p a = cond (nat_lt a p) (least (λ b. nat_eq ((a * b) % p) 1) p) None

-- the field of modulus p
abbrev pub prime_meaning : ℕ → Meaning
prime_meaning p = record { size = p; sum = sum_mod p; opposite = opposite_mod p; product = product_mod p; inverse = inverse_mod p }
