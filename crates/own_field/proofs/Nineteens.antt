-- 19 is prime, and the table has the inverses: both computed once.
use Rattle.std.proofs.Common.{◌≡◌, ℕ, ◌+◌, ◌*◌, ◌%◌, ◌<◌, ◌≤◌, Bool, Bor, true, ◌&&◌, eqb, ltb, List, [], ◌∷◌, Some, None, Option, get_or, sym, refl, ◌∙◌, ⊎_elim, arith}
use Rattle.std.specs.List.{slice_get}
use Rattle.std.specs.Option.{option_copied}
use Rattle.std.specs.Slice.{IsItemAt}
use Rattle.std.proofs.lemmas.Bool.{and_parts, cases_lt, eqb-true, ltb-false, ltb-true}
use Rattle.std.proofs.lemmas.Option.{slice_get-get_or, slice_get_past, slice_get_read}
use Rattle.field.specs.Meaning.{Lawful}
use Rattle.field.specs.Primes.{prime_meaning, inverse_mod}
use Rattle.field.proofs.Below.{every_below, at_below}
use Rattle.field.proofs.Inverses.{inverse_is, inverse_above}
use Rattle.field.proofs.Primality.{suits, suits_prime}
use Rattle.field.proofs.PrimeLaws.{prime_lawful}

pub lawful : Lawful (prime_meaning 19)
unfolding every_below suits
lawful = prime_lawful 19 (suits_prime 19 refl)

abbrev pub inverses : List ℕ
inverses = 1 ∷ 10 ∷ 13 ∷ 5 ∷ 4 ∷ 16 ∷ 11 ∷ 12 ∷ 17 ∷ 2 ∷ 7 ∷ 8 ∷ 3 ∷ 15 ∷ 14 ∷ 6 ∷ 9 ∷ 18 ∷ []

-- entry k is below 19, and k + 1 times it is 1 modulo 19
abbrev right : ℕ → Bool
right k = ltb (get_or inverses k 0) 19 && eqb ((k + 1) * get_or inverses k 0 % 19) 1

computed : every_below right 18 ≡ true
unfolding every_below
computed = refl

-- what the table has at k is the inverse of k + 1
inverse_at : (k : ℕ) → slice_get inverses k ≡ inverse_mod 19 (k + 1)
inverse_at k = ⊎_elim
    (λ (l : k < 18).
    let parts = and_parts (ltb (get_or inverses k 0) 19) (eqb ((k + 1) * get_or inverses k 0 % 19) 1) (at_below right 18 k computed l) in
    slice_get-get_or inverses k 0 l
    ∙ sym (inverse_is 19 (k + 1) (get_or inverses k 0) (omega arith) (ltb-true (get_or inverses k 0) 19 parts.0)
    (eqb-true ((k + 1) * get_or inverses k 0 % 19) 1 parts.1)))
    (λ h. slice_get_past inverses k h ∙ sym (inverse_above 19 (k + 1) (omega (arith, h))))
    (cases_lt k 18)

-- what is read there
pub read_at : (k : ℕ) (r : Option (Bor ℕ)) → IsItemAt inverses k r → option_copied r ≡ inverse_mod 19 (k + 1)
read_at k (Some x) h = sym (slice_get_read inverses 18 k x.now refl (ltb-true k 18 (sym h.0)) h.1) ∙ inverse_at k
read_at k None h = sym (inverse_above 19 (k + 1) (let past : 18 ≤ k = ltb-false k 18 (sym h.0) in omega (arith, past)))
