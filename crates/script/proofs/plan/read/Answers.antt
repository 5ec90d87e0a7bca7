use Rattle.script.specs.Plans.{Sound}
use Rattle.script.proofs.Grounding.{turned}
use Rattle.script.proofs.plan.read.Goals as goal

pub loop-k-preserved : goal.loop-k-preserved
loop-k-preserved c =
    turned Sound _ c.line.result c.map_err.result c.in_ok-draft.draft c.line.ensures c.map_err.ensures.cases c.map_err.ensures.variant
    c.in_ok-draft.was
