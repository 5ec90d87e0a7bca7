use Rattle.std.proofs.Common.{◌≡◌, ℕ, List, length, sym, refl, ap, ◌∙◌, arith}
use Rattle.std.proofs.lemmas.List.{with_items_is}
use Rattle.rules.specs.Ends.{load, «open», tell, take, key}
use Rattle.end.specs.Results.{written_to}
use Rattle.dialogue.specs.Scripts.{call_of}
use Rattle.dialogue.proofs.Steps.{respelled}
use Rattle.dialogue.proofs.calls.perform.Goals as goal
use Rattle.dialogue.proofs.calls.perform.Goals.{in-Load, in-Open, in-Tell+in_ok-out-in-Tell, in-Take, in-Key+in_ok-out-in-Key, in-Close}

pub returns-clause-event : goal.returns-clause-event
returns-clause-event g c =
    elim c.match-order.branch [
      | in-Load w ↦ rw (w.answer-is, w.end-is) (
        refl,
        respelled (g.F.Field.meaning c.args.end.now.field) c.args.end.now w.load.new.self _ _ _ _ _ _ (ap call_of w.in-Load.is ∙ ap load (sym w.deref.ensures.value)) refl w.new.ensures.items
            w.load.ensures.follows,
      )
      | in-Open w ↦ rw (w.answer-is, w.end-is) (
        refl,
        (let whole : length w.open.new.secret ≡ w.in-Open.secret.len = (let d = w.deref_mut.ensures in omega arith) in
            respelled (g.F.Field.meaning c.args.end.now.field) c.args.end.now w.open.new.self _ _ _ _ _ _ (ap call_of w.in-Open.is ∙ ap «open» (sym w.deref_mut.ensures.value)) refl
            (with_items_is w.in-Open.secret w.open.new.secret whole) w.open.ensures.follows),
      )
      | in-Tell+in_ok-out-in-Tell w ↦ rw (w.answer-is, w.end-is) (
        refl,
        (let made = w.in_ok-out-in-Tell.ensures.len in
            let whole : length w.tell.new.out ≡ w.in_ok-out-in-Tell.out.len = omega arith in
            let room : w.in-Tell.room ≡ length w.deref_mut-in-Tell.result.now = omega arith in
            respelled (g.F.Field.meaning c.args.end.now.field) c.args.end.now c.args.end.now _ _ _ _ _ _ (ap call_of w.in-Tell.is ∙ ap tell room) w.cut.ensures.answer
            (w.cut.ensures.written ∙ ap (λ (z : List ℕ). written_to z w.tell.result) (with_items_is w.in_ok-out-in-Tell.out w.tell.new.out whole))
            w.tell.ensures.follows),
      )
      | in-Take w ↦ rw (w.answer-is, w.end-is) (
        refl,
        respelled (g.F.Field.meaning c.args.end.now.field) c.args.end.now w.take.new.self _ _ _ _ _ _ (ap call_of w.in-Take.is ∙ ap take (sym w.deref-in-Take.ensures.value)) refl w.new-in-Take.ensures.items
            w.take.ensures.follows,
      )
      | in-Key+in_ok-out-in-Key w ↦ rw (w.answer-is, w.end-is) (
        refl,
        (let made = w.in_ok-out-in-Key.ensures.len in
            let whole : length w.key.new.out ≡ w.in_ok-out-in-Key.out.len = omega arith in
            let room : w.in-Key.room ≡ length w.deref_mut-in-Key.result.now = omega arith in
            respelled (g.F.Field.meaning c.args.end.now.field) c.args.end.now c.args.end.now _ _ _ _ _ _ (ap call_of w.in-Key.is ∙ ap key room) w.cut-in-Key.ensures.answer
            (w.cut-in-Key.ensures.written ∙ ap (λ (z : List ℕ). written_to z w.key.result) (with_items_is w.in_ok-out-in-Key.out w.key.new.out whole))
            w.key.ensures.follows),
      )
      | in-Close w ↦ rw (w.answer-is, w.end-is) (
        refl,
        respelled (g.F.Field.meaning c.args.end.now.field) c.args.end.now w.close.new.self _ _ _ _ _ _ (ap call_of w.in-Close.is) refl w.new-in-Close.ensures.items w.close.ensures.follows,
      )
    ]
