use Rattle.ideal.proofs.Reducing.{Came}
use Rattle.ideal.proofs.ideal.Ideal.reduce.Given as goal

abbrev pub invariant-loop : goal.invariant-loop
invariant-loop g l = Came (g.F.Field.meaning l.curve.field) l.curve.setting l.self l.ideal l.counter l.saved
