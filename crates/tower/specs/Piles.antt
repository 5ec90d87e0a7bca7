-- What a pile of fields means, and how many elements it has at least.
use Rattle.std.specs.Prelude.{ℕ}
use Rattle.field.specs.Meaning.{Meaning}
use Rattle.field.specs.Made.{prime_field_meaning, extension_meaning}
use Rattle.tower.specs.declared.pile.Pile.{Pile}
use Rattle.tower.specs.declared.pile.Pile.TheVariants.{Base, One, Two, Three, Four}

-- the meaning of the field on top
abbrev pub pile_meaning : Pile → Meaning
pile_meaning (Base f) = prime_field_meaning f
pile_meaning (One f) = extension_meaning prime_field_meaning f
pile_meaning (Two f) = extension_meaning (extension_meaning prime_field_meaning) f
pile_meaning (Three f) = extension_meaning (extension_meaning (extension_meaning prime_field_meaning)) f
pile_meaning (Four f) = extension_meaning (extension_meaning (extension_meaning (extension_meaning prime_field_meaning))) f

-- no prime field is smaller than that of 3, and each extension squares the size
abbrev pub fewest : Pile → ℕ
fewest (Base f) = 3
fewest (One f) = 9
fewest (Two f) = 81
fewest (Three f) = 6561
fewest (Four f) = 43046721
