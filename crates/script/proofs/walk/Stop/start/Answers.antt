use Rattle.std.proofs.Common.{refl}
use Rattle.algebra.specs.Lines.{start}
use Rattle.rules.specs.Settings.{unit_ideal}
use Rattle.script.proofs.walk.Stop.start.Goals as goal

pub returns : goal.returns
returns c = record { index = refl; line = λ M s L A S. (unit_ideal L A, start, c.one.ensures M L A) }
