use Rattle.script.specs.Plans.{Sound}
use Rattle.script.proofs.plan.read.Given as goal

abbrev pub invariant-loop-k : goal.invariant-loop-k
invariant-loop-k l = Sound l.draft
