use Rattle.std.proofs.Common.{◌+◌, arith}
use Rattle.place.proofs.place.Place.add.Goals as goal

pub returns : goal.returns
returns g c = record {
  sums = λ L A π ρ hs hp hq lp lq. c.sum.ensures.sums L A π ρ π.off hs hp hq lp lq (omega arith) (omega arith);
  line = λ L A i j hs hp hq. c.sum.ensures.line L A i j (i + j) hs hp hq (omega arith) (omega arith);
}
