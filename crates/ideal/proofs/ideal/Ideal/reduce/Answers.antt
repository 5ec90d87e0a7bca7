use Rattle.std.proofs.Common.{arith}
use Rattle.ideal.proofs.Reducing.{starts, goes_on, arrives, ends}
use Rattle.ideal.proofs.ideal.Ideal.reduce.Goals as goal

pub loop-init : goal.loop-init
loop-init g c = starts (g.F.Field.meaning c.args.curve.now.field) c.args.curve.now.setting c.args.self.now

pub loop-preserved : goal.loop-preserved
loop-preserved g c = goes_on c.loop.invariant (omega arith) c.step-far.ensures (λ h. omega arith)

pub returns-after-loop : goal.returns-after-loop
returns-after-loop g c = ends c.loop.invariant (omega arith)

pub returns-then-len-half : goal.returns-then-len-half
returns-then-len-half g c = arrives c.loop.invariant (omega arith)
