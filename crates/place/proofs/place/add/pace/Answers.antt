use Rattle.std.proofs.Common.{arith}
use Rattle.place.proofs.place.add.pace.Goals as goal

pub returns : goal.returns
returns g c = (omega arith, omega arith, (c.step.result.1, c.step.ensures))
