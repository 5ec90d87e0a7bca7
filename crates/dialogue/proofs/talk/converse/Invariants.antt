use Rattle.std.proofs.Common.{vec_items}
use Rattle.std.specs.Vec.Iter.{into_iter_items}
use Rattle.dialogue.proofs.Lengthened.{Sofar}
use Rattle.dialogue.proofs.talk.converse.Given as goal

abbrev pub invariant-loop-line : goal.invariant-loop-line
invariant-loop-line g l =
    (goal.iterator-loop-line g).can_next l.line-iterator ×
    (goal.iterator-loop-line g).is_finite l.line-iterator ×
    Sofar g.F.Field.meaning l.initial.left l.initial.right l.left l.right
    (into_iter_items l.initial.line-iterator) (into_iter_items l.line-iterator) (vec_items l.log)
