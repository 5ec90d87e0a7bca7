use Rattle.std.proofs.Common.{rules, arith}
use Rattle.poly.proofs.Sums.{difference_is}
use Rattle.poly.proofs.poly.Poly.sub.Goals as goal

pub returns : goal.returns
returns g c = difference_is c.max.result (omega arith) (omega arith) (λ k h. let p = c.filled.ensures.given k h in search rules) c.filled.ensures.past
