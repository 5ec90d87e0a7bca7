-- Arithmetic modulo p at codes and elsewhere; modulo a prime it is lawful.
use Rattle.std.proofs.Common.{◌≡◌, ℕ, ◌+◌, ◌-◌, ◌*◌, ◌%◌, ◌<◌, ◌≤◌, sym, refl, ap, ◌∙◌, mod-lt, mod-eq_of_lt, mul_comm, add_comm, arith}
use native.Mathlib.Nat.{mod-eq-sub-mod, mod_self, add-mod-mod}
use Rattle.std.proofs.lemmas.Bool.{lt-ltb}
use Rattle.std.proofs.lemmas.Bool.Decides.{nat_tests}
use Rattle.field.specs.Meaning.{Lawful}
use Rattle.field.specs.Primes.{PrimeNumber, prime_meaning, sum_mod, opposite_mod, product_mod}
use Rattle.field.proofs.Modular.{mod_product_assoc, mod_sum_assoc, mod_distributes}
use Rattle.field.proofs.Primality.{listed_low, listed_high}
use Rattle.field.proofs.Inverses.{inverse_exists, inverse_is, inverse_none, inverse_above}

pub sum_in : (p a b : ℕ) → a < p → b < p → sum_mod p a b ≡ (a + b) % p
unfolding sum_mod
sum_in p a b ha hb = rw (lt-ltb a p ha, lt-ltb b p hb) refl

pub product_in : (p a b : ℕ) → a < p → b < p → product_mod p a b ≡ (a * b) % p
unfolding product_mod
product_in p a b ha hb = rw (lt-ltb a p ha, lt-ltb b p hb) refl

opposite_in : (p a : ℕ) → a < p → opposite_mod p a ≡ (p - a) % p
unfolding opposite_mod
opposite_in p a ha = rw (lt-ltb a p ha) refl

pub sum_out : (p a b : ℕ) → (p ≤ a → sum_mod p a b ≡ 0) × (p ≤ b → sum_mod p a b ≡ 0)
unfolding sum_mod
sum_out p a b = (λ h. grind (arith, nat_tests), λ h. grind (arith, nat_tests))

pub product_out : (p a b : ℕ) → (p ≤ a → product_mod p a b ≡ 0) × (p ≤ b → product_mod p a b ≡ 0)
unfolding product_mod
product_out p a b = (λ h. grind (arith, nat_tests), λ h. grind (arith, nat_tests))

pub opposite_out : (p a : ℕ) → p ≤ a → opposite_mod p a ≡ 0
unfolding opposite_mod
opposite_out p a h = grind (arith, nat_tests)

-- a sum and an opposite of codes without a division
pub sum_below : (p a b : ℕ) → a < p → b < p → a + b < p → sum_mod p a b ≡ a + b
sum_below p a b ha hb h = sum_in p a b ha hb ∙ mod-eq_of_lt h

pub sum_above : (p a b : ℕ) → a < p → b < p → p ≤ a + b → sum_mod p a b ≡ a + b - p
sum_above p a b ha hb h = let l : a + b - p < p = omega arith in sum_in p a b ha hb ∙ mod-eq-sub-mod h ∙ mod-eq_of_lt l

pub opposite_some : (p a : ℕ) → 0 < a → a < p → opposite_mod p a ≡ p - a
opposite_some p a h ha = let l : p - a < p = omega arith in opposite_in p a ha ∙ mod-eq_of_lt l

pub opposite_zero : (p : ℕ) → 0 < p → opposite_mod p 0 ≡ 0
opposite_zero p h = let e : p - 0 ≡ p = omega arith in opposite_in p 0 h ∙ ap (λ x. x % p) e ∙ mod_self p

-- what the code's sums and opposites use, above a listed p
pub ruleset sums = (sum_out, sum_below, sum_above, listed_high)

pub ruleset opposites = (opposite_out, opposite_zero, opposite_some, listed_low)

module _ (p : ℕ) (prime : PrimeNumber p) where
  pos : 0 < p
  pos = omega (arith, prime.low)

  one_below : 1 < p
  one_below = omega (arith, prime.low)

  m : (n : ℕ) → n % p < p
  m n = mod-lt n pos

  sum_nested : (a b c : ℕ) → a < p → b < p → c < p → sum_mod p (sum_mod p a b) c ≡ sum_mod p a (sum_mod p b c)
  sum_nested a b c ha hb hc =
      ap (λ x. sum_mod p x c) (sum_in p a b ha hb) ∙ sum_in p _ c (m (a + b)) hc ∙ mod_sum_assoc a b c p
      ∙ sym (sum_in p a _ ha (m (b + c))) ∙ sym (ap (sum_mod p a) (sum_in p b c hb hc))

  product_nested : (a b c : ℕ) → a < p → b < p → c < p → product_mod p (product_mod p a b) c ≡ product_mod p a (product_mod p b c)
  product_nested a b c ha hb hc =
      ap (λ x. product_mod p x c) (product_in p a b ha hb) ∙ product_in p _ c (m (a * b)) hc ∙ mod_product_assoc a b c p
      ∙ sym (product_in p a _ ha (m (b * c))) ∙ sym (ap (product_mod p a) (product_in p b c hb hc))

  spread : (a b c : ℕ) → a < p → b < p → c < p → product_mod p a (sum_mod p b c) ≡ sum_mod p (product_mod p a b) (product_mod p a c)
  spread a b c ha hb hc =
      ap (product_mod p a) (sum_in p b c hb hc) ∙ product_in p a _ ha (m (b + c)) ∙ mod_distributes a b c p
      ∙ sym (sum_in p _ _ (m (a * b)) (m (a * c)))
      ∙ sym (ap (λ x. sum_mod p x ((a * c) % p)) (product_in p a b ha hb)) ∙ sym (ap (sum_mod p (product_mod p a b)) (product_in p a c ha hc))

  pub prime_lawful : Lawful (prime_meaning p)
  prime_lawful = record {
    low = prime.low;
    high = omega (arith, prime.high);
    sum_closed = λ a b ha hb. rw (sum_in p a b ha hb) (m (a + b));
    opposite_closed = λ a ha. rw (opposite_in p a ha) (m (p - a));
    product_closed = λ a b ha hb. rw (product_in p a b ha hb) (m (a * b));
    sum_assoc = sum_nested;
    sum_comm = λ a b ha hb. sum_in p a b ha hb ∙ ap (λ x. x % p) (add_comm a b) ∙ sym (sum_in p b a hb ha);
    sum_zero = λ a ha. sum_in p a 0 ha pos ∙ ap (λ x. x % p) (let e : a + 0 ≡ a = omega arith in e) ∙ mod-eq_of_lt ha;
    sum_opposite = λ a ha. ap (sum_mod p a) (opposite_in p a ha) ∙ sum_in p a _ ha (m (p - a)) ∙ add-mod-mod a (p - a) p
        ∙ ap (λ x. x % p) (let e : a + (p - a) ≡ p = omega arith in e) ∙ mod_self p;
    product_assoc = product_nested;
    product_comm = λ a b ha hb. product_in p a b ha hb ∙ ap (λ x. x % p) (mul_comm a b) ∙ sym (product_in p b a hb ha);
    product_one = λ a ha. product_in p a 1 ha one_below ∙ ap (λ x. x % p) (let e : a * 1 ≡ a = omega arith in e) ∙ mod-eq_of_lt ha;
    distributes = spread;
    inverse_zero = inverse_none p;
    inverse_there = λ a pa ha. let x = inverse_exists p a prime pa ha in (x.0, inverse_is p a x.0 ha x.1 x.2, x.1, product_in p a x.0 ha x.1 ∙ x.2);
    odd = λ z. let two : 2 < p = omega (arith, prime.low) in let e : 2 ≡ 0 = sym (mod-eq_of_lt two) ∙ sym (sum_in p 1 1 one_below one_below) ∙ z in omega arith;
    sum_out = sum_out p;
    opposite_out = opposite_out p;
    product_out = product_out p;
    inverse_out = inverse_above p;
  }
