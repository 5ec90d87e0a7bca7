-- What the fields that are made mean: a prime field by its modulus, an extension by the meaning below it and its n.
use Rattle.field.specs.Meaning.{Meaning}
use Rattle.field.specs.Primes.{prime_meaning}
use Rattle.field.specs.Extensions.{ext_meaning}
use Rattle.field.specs.declared.prime.Prime.{Prime}
use Rattle.field.specs.declared.extension.Extension.{Extension}

abbrev pub prime_field_meaning : Prime → Meaning
prime_field_meaning f = prime_meaning f.p

-- with the size below as the extension keeps it, which is the size of the meaning below
abbrev pub extension_meaning : {F : Type 0} → (F → Meaning) → Extension F → Meaning
extension_meaning of_base e = ext_meaning (of_base e.base) e.q e.n
