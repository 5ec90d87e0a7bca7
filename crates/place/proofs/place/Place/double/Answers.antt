use Rattle.std.proofs.Common.{◌+◌, ◌*◌, arith}
use Rattle.place.specs.Results.{Moved}
use Rattle.place.proofs.place.Place.double.Goals as goal

pub returns : goal.returns
unfolding Moved
returns g c = λ small L A t hs h. c.sum.ensures.line L A t t (t * 2 + c.args.digit) hs h h small (omega arith)
