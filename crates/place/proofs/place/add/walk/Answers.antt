use Rattle.std.proofs.Common.{arith}
use Rattle.place.proofs.Walking.{start, again, stopped, spent_all}
use Rattle.place.proofs.place.add.walk.Goals as goal

pub loop-init : goal.loop-init
loop-init g c = λ L A x hs hx t l. start L A x _ hx t l

pub loop-preserved : goal.loop-preserved
loop-preserved g c = λ L A x hs hx t l. again L A hs (c.loop.invariant L A x hs hx t l) c.in-Some.ensures

pub returns-in_default : goal.returns-in_default
returns-in_default g c = λ L A x hs hx t l h. stopped L A hs (c.loop.invariant L A x hs hx t l) c.in_default.ensures

pub returns-after-loop : goal.returns-after-loop
returns-after-loop g c = λ L A x hs hx t l h. spent_all L A hs (c.loop.invariant L A x hs hx t l) (omega (arith, hs.m_is))
