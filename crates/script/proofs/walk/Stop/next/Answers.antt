use Rattle.std.proofs.Common.{◌≡◌, ◌-◌, ap, arith}
use Rattle.poly.specs.Values.{size}
use Rattle.script.proofs.Lining.{onward}
use Rattle.script.proofs.walk.Stop.next.Goals as goal

pub returns : goal.returns
returns g c = record {
  index = c.saturating_add.ensures;
  line = λ small on.
      let long : c.saturating_sub-length.result ≡ c.step-far.result.1 - size c.args.self.now.ideal.q = omega (arith, ap size c.q.ensures) in
      onward {M = g.F.Field.meaning c.args.curve.now.field} {s = c.args.curve.now.setting} {x = c.args.self.now} c.step-far.result.1
      c.step-far.ensures small (omega arith) (omega arith) on;
}
