use Rattle.algebra.specs.Codes.{K}
use Rattle.algebra.proofs.PlaceTheorems.{places_of_line}
use Rattle.algebra.proofs.places.every_place_is_one.Goals as goal

pub returns : goal.returns
returns c = λ M L. places_of_line (K L)
