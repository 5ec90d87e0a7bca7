-- Each number from 1 to p - 1 has an inverse modulo the prime p.
use Rattle.std.proofs.Common.{◌≡◌, ℕ, zero, suc, ◌-◌, ◌*◌, ◌/◌, ◌%◌, ◌<◌, ◌≤◌, Bool, true, false, eqb, ltb, Some, None, sym, refl, ap, ◌∙◌, ⊎_elim, mod-lt, mod-eq_of_lt, zero-mul, arith}
use native.Mathlib.Nat.{zero-mod}
use Rattle.std.proofs.lemmas.Bool.{eqb-true, eq-eqb, lt-ltb, le-ltb, cases_lt, cases_Bool}
use Rattle.field.specs.Primes.{PrimeNumber, least, inverse_mod}
use Rattle.field.proofs.Modular.{step, inverse_once}

-- what one turn of the loop keeps
pub turn : (p a f r : ℕ) → PrimeNumber p → 1 < r → r < p → f < p → (a * f) % p ≡ r →
    (0 < p % r) × (p % r < r) × (((p - p / r) * f) % p < p) × ((a * (((p - p / r) * f) % p)) % p ≡ p % r)
turn p a f r prime above below h e =
    let positive : 0 < p = omega arith in
    let rpos : 0 < r = omega arith in
    let small : p % r < r = mod-lt p rpos in
    let some : 0 < p % r = ⊎_elim (λ (z : p % r < 1). absurd (prime.no_divisor r above below (omega arith))) (λ (z : 1 ≤ p % r). z) (cases_lt (p % r) 1) in
    let less : p % r < p = omega arith in
    (some, small, mod-lt _ positive, step a f r p rpos below e ∙ mod-eq_of_lt less)

found : (n p a f r : ℕ) → PrimeNumber p → r ≤ n → 0 < r → r < p → f < p → (a * f) % p ≡ r → (b : ℕ) × (b < p) × ((a * b) % p ≡ 1)
found zero p a f r prime l pos below h e = absurd (omega arith)
found (suc n) p a f r prime l pos below h e =
    ⊎_elim (λ (s : r < 2). let one : r ≡ 1 = omega arith in (f, h, e ∙ one))
    (λ (s : 2 ≤ r).
    let t = turn p a f r prime s below h e in
    found n p a (((p - p / r) * f) % p) (p % r) prime (omega arith) t.0 (omega arith) t.2 t.3)
    (cases_lt r 2)

pub inverse_exists : (p a : ℕ) → PrimeNumber p → 0 < a → a < p → (b : ℕ) × (b < p) × ((a * b) % p ≡ 1)
inverse_exists p a prime pos below =
    let one : a * 1 ≡ a = omega arith in
    found a p a 1 a prime (omega arith) pos below (omega (arith, prime.low)) (ap (λ x. x % p) one ∙ mod-eq_of_lt below)

pub least_none : (test : ℕ → Bool) (k : ℕ) → ((x : ℕ) → x < k → test x ≡ true → ⊥) → least test k ≡ None
unfolding least
least_none test zero never = refl
least_none test (suc k) never =
    let rest : least test k ≡ None = least_none test k (λ x l t. never x (omega arith) t) in
    let here : test k ≡ false = ⊎_elim (λ (t : test k ≡ true). absurd (never k (omega arith) t)) (λ (t : test k ≡ false). t) (cases_Bool (test k)) in
    rw (rest, here) refl

pub least_is : (test : ℕ → Bool) (k j : ℕ) → j < k → test j ≡ true → ((x : ℕ) → x < k → test x ≡ true → x ≡ j) → least test k ≡ Some j
unfolding least
least_is test zero j l t only = absurd (omega arith)
least_is test (suc k) j l t only =
    ⊎_elim
    (λ (b : j < k). let rest : least test k ≡ Some j = least_is test k j b t (λ x s u. only x (omega arith) u) in rw rest refl)
    (λ (b : k ≤ j).
    let e : k ≡ j = omega arith in
    let rest : least test k ≡ None = least_none test k (λ x s u. let z = only x (omega arith) u in omega arith) in
    let here : test k ≡ true = ap test e ∙ t in
    rw (rest, here) (ap Some e))
    (cases_lt j k)

pub inverse_is : (p a b : ℕ) → a < p → b < p → (a * b) % p ≡ 1 → inverse_mod p a ≡ Some b
unfolding inverse_mod
inverse_is p a b ha hb e =
    let there : least (λ x. eqb ((a * x) % p) 1) p ≡ Some b =
    least_is (λ x. eqb ((a * x) % p) 1) p b hb (eq-eqb _ _ e)
    (λ x hx t. sym (mod-eq_of_lt hx) ∙ inverse_once a x b p hx hb (eqb-true _ _ t) e ∙ mod-eq_of_lt hb) in
    rw (lt-ltb a p ha) there

pub inverse_none : (p : ℕ) → inverse_mod p 0 ≡ None
unfolding inverse_mod
inverse_none p =
    let none : least (λ x. eqb ((0 * x) % p) 1) p ≡ None =
    least_none (λ x. eqb ((0 * x) % p) 1) p (λ x hx t.
    let z : (0 * x) % p ≡ 0 = ap (λ y. y % p) (zero-mul x) ∙ zero-mod p in
    let o : (0 * x) % p ≡ 1 = eqb-true _ _ t in omega arith) in
    ⊎_elim (λ (t : ltb 0 p ≡ true). rw t none) (λ (t : ltb 0 p ≡ false). rw t refl) (cases_Bool (ltb 0 p))

pub inverse_above : (p a : ℕ) → p ≤ a → inverse_mod p a ≡ None
unfolding inverse_mod
inverse_above p a h = rw (le-ltb a p h) refl

pub ruleset inverses = (inverse_is, inverse_none, inverse_above)
