use Rattle.std.proofs.Common.{◌≡◌, List, [], is_ok, vec_items, ap, ◌∙◌, subst, arith, rules}
use Rattle.std.specs.Vec.Iter.{into_iter_items}
use Rattle.std.proofs.ResultArms.{chosen}
use Rattle.std.proofs.lemmas.List.{nil_from_length}
use Rattle.dialogue.proofs.Steps.{unmade}
use Rattle.dialogue.proofs.Lengthened.{Sofar, at_start, goes_on, end_logs, end_agrees, newly_loaded}
use Rattle.dialogue.specs.declared.script.Line.{Line}
use Rattle.dialogue.proofs.talk.converse.Goals as goal

pub loop-line-init : goal.loop-line-init
loop-line-init g c =
    (search rules, search rules, at_start g.F.Field.meaning c.args.left.now c.args.right.now _ _ c.new-log.ensures.items)

pub loop-line-preserved : goal.loop-line-preserved
loop-line-preserved g c =
    let told = c.in_ok-event.ensures in
    let pushed = chosen _ _ _ _ c.push.ensures.items (ap is_ok c.in_ok-push.was) in (
      search rules,
      search rules,
      goes_on g.F.Field.meaning c.args.left.now c.args.right.now c.loop-line.left c.loop-line.right
          c.step.new.left c.step.new.right (into_iter_items c.into_iter-line-iterator.result) (into_iter_items c.loop-line.line-iterator)
          (into_iter_items c.next.new.self) (vec_items c.loop-line.log) (vec_items c.push.new.self) c.in-Some.line
          c.in_ok-event.event c.loop-line.invariant.2 c.in-Some.ensures.steps.0 pushed told.side told.acts
          c.step.ensures.over_left c.step.ensures.over_right,
    )

pub returns-in_err-event : goal.returns-in_err-event
returns-in_err-event g c = record {
  logs = unmade _ _ c.from_residual.ensures.0;
  agrees = unmade _ _ c.from_residual.ensures.0;
  newly = unmade _ _ c.from_residual.ensures.0;
  over_left = c.step.ensures.over_left ∙ c.loop-line.invariant.2.over_left;
  over_right = c.step.ensures.over_right ∙ c.loop-line.invariant.2.over_right;
}

pub returns-in_err-push : goal.returns-in_err-push
returns-in_err-push g c = record {
  logs = unmade _ _ c.from_residual-in_err-push.ensures.0;
  agrees = unmade _ _ c.from_residual-in_err-push.ensures.0;
  newly = unmade _ _ c.from_residual-in_err-push.ensures.0;
  over_left = c.step.ensures.over_left ∙ c.loop-line.invariant.2.over_left;
  over_right = c.step.ensures.over_right ∙ c.loop-line.invariant.2.over_right;
}

pub returns : goal.returns
returns g c =
    let empty = c.in-None.ensures.steps.0 in
    let none : into_iter_items c.loop-line.line-iterator ≡ [] = nil_from_length _ (omega arith) in
    let so : Sofar g.F.Field.meaning c.args.left.now c.args.right.now c.loop-line.left c.loop-line.right
    (vec_items c.args.script) (into_iter_items c.loop-line.line-iterator) (vec_items c.loop-line.log) =
    subst (λ (z : List Line). Sofar g.F.Field.meaning c.args.left.now c.args.right.now c.loop-line.left c.loop-line.right
    z (into_iter_items c.loop-line.line-iterator) (vec_items c.loop-line.log)) c.into_iter-line-iterator.ensures.into_iter_gives.0 c.loop-line.invariant.2 in
    let agrees = end_agrees g.F.Field.meaning c.args.left.now c.args.right.now c.loop-line.left c.loop-line.right _ _ _ so none in
    record {
      logs = end_logs g.F.Field.meaning c.args.left.now c.args.right.now c.loop-line.left c.loop-line.right _ _ _ so none;
      agrees = agrees;
      newly = λ same. newly_loaded _ c.args.left.now c.args.right.now c.loop-line.left c.loop-line.right
          (vec_items c.args.script) (vec_items c.loop-line.log) (agrees same);
      over_left = so.over_left;
      over_right = so.over_right;
    }
