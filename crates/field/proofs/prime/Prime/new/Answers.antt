use Rattle.std.proofs.Common.{◌≡◌, true, sym, refl, ◌∙◌}
use Rattle.field.specs.Primes.{moduli, listed}
use Rattle.field.proofs.Primality.{listed_any, listed_prime}
use Rattle.field.proofs.PrimeLaws.{prime_lawful}
use Rattle.field.proofs.prime.Prime.new.Goals as goal

pub invariant_of-result : goal.invariant_of-result
invariant_of-result c = record { ok = sym (listed_any c.args.p moduli) ∙ sym c.contains.ensures.value ∙ c.if-contains.true }

pub returns-then-contains : goal.returns-then-contains
returns-then-contains c =
    let l : listed c.args.p moduli ≡ true = sym (listed_any c.args.p moduli) ∙ sym c.contains.ensures.value ∙ c.if-contains.true in
    (l, refl, prime_lawful c.args.p (listed_prime c.args.p l))

pub returns-else-contains : goal.returns-else-contains
returns-else-contains c = (sym (listed_any c.args.p moduli) ∙ sym c.contains.ensures.value ∙ c.if-contains.false, refl)
