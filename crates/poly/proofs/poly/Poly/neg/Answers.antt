use Rattle.std.proofs.Common.{rules, arith}
use Rattle.poly.specs.Values.{size}
use Rattle.poly.proofs.Sums.{opposite_is}
use Rattle.poly.proofs.poly.Poly.neg.Goals as goal

pub returns : goal.returns
returns g c = opposite_is (size c.args.self.now) (omega arith) (λ k h. let p = c.filled.ensures.given k h in search rules) c.filled.ensures.past
