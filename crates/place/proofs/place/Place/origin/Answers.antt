use Rattle.std.proofs.Common.{refl}
use Rattle.place.specs.Results.{Origin}
use Rattle.place.specs.declared.place.Place.{Place}
use Rattle.place.proofs.Making.{is_origin, is_start, is_none}
use Rattle.place.proofs.place.Place.origin.Goals as goal

pub returns : goal.returns
returns c = record { is = o; line = is_start p o; times = is_none p o }
  where
    p : Place
    p = record { ideal = c.one.result; offset = 0 }

    o : Origin p
    o = is_origin p c.one.ensures refl
