use Rattle.std.proofs.Common.{rules, arith}
use Rattle.poly.specs.Values.{size}
use Rattle.poly.proofs.Sums.{scaled_is}
use Rattle.poly.proofs.poly.Poly.scale.Goals as goal

pub returns : goal.returns
returns g c = scaled_is (size c.args.self.now) (omega arith) (λ k h. let p = c.filled.ensures.given k h in search rules) c.filled.ensures.past
