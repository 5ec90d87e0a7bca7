use Rattle.std.proofs.Common.{◌≡◌, rules, arith}
use Rattle.poly.specs.Values.{at}
use Rattle.poly.proofs.Sums.{constant_is}
use Rattle.poly.proofs.poly.Poly.constant.Goals as goal

pub returns : goal.returns
returns c =
    let e : at c.filled.result 0 ≡ c.args.c = (let p = c.filled.ensures.given 0 (omega arith) in search rules) in
    record { places = (e, c.filled.ensures.past); is = constant_is c.args.c c.filled.result e c.filled.ensures.past }
