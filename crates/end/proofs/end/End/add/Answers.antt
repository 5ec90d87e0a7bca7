use Rattle.std.proofs.Common.{Ok, Err, subst}
use Rattle.std.proofs.lemmas.Result.{err_from_is_err_and}
use Rattle.field.specs.Meaning.{Meaning}
use Rattle.place.specs.Results.{Added, AddedAt}
use Rattle.end.specs.Places.{PlaceRead, Adds}
use Rattle.end.proofs.Placing.{first_away, second_away, sum_made, sum_on_line, line_accepted}
use Rattle.end.proofs.end.End.add.Goals as goal

pub returns-in_err-first : goal.returns-in_err-first
returns-in_err-first g c =
    let p = err_from_is_err_and c.from_residual-in_err-first.result c.from_residual-in_err-first.ensures.1 in
    let loaded = c.in_ok-curve.ensures in
    let M : Meaning = g.F.Field.meaning c.args.self.now.field in
    let adds : Adds M c.args.self.now c.args.first.now c.args.second.now (Err c.in_err-first.field-0.0) =
    first_away c.args.self.now c.in_ok-curve.curve.setting loaded.0 loaded.1 c.args.first.now c.args.second.now
    c.in_err-first.field-0.0 (subst (λ (f : g.row.F.Denot). PlaceRead (g.F.Field.meaning f) c.in_ok-curve.curve.setting c.args.first.now (Err c.in_err-first.field-0.0)) loaded.2 c.in_err-first.ensures) in
    rw (p.1, p.2) (record {
      adds = adds;
      line = line_accepted c.args.self.now c.args.first.now c.args.second.now c.in_err-first.field-0.0 adds;
      asked = λ away. absurd (away loaded.0);
    })

pub returns-in_err-second : goal.returns-in_err-second
returns-in_err-second g c =
    let p = err_from_is_err_and c.from_residual-in_err-second.result c.from_residual-in_err-second.ensures.1 in
    let loaded = c.in_ok-curve.ensures in
    let M : Meaning = g.F.Field.meaning c.args.self.now.field in
    let adds : Adds M c.args.self.now c.args.first.now c.args.second.now (Err c.in_err-second.field-0.0) =
    second_away c.args.self.now c.in_ok-curve.curve.setting loaded.0 loaded.1 c.args.first.now c.args.second.now
    c.in_ok-first.first (subst (λ (f : g.row.F.Denot). PlaceRead (g.F.Field.meaning f) c.in_ok-curve.curve.setting c.args.first.now (Ok c.in_ok-first.first)) loaded.2 c.in_ok-first.ensures) c.in_err-second.field-0.0 (subst (λ (f : g.row.F.Denot). PlaceRead (g.F.Field.meaning f) c.in_ok-curve.curve.setting c.args.second.now (Err c.in_err-second.field-0.0)) loaded.2 c.in_err-second.ensures) in
    rw (p.1, p.2) (record {
      adds = adds;
      line = line_accepted c.args.self.now c.args.first.now c.args.second.now c.in_err-second.field-0.0 adds;
      asked = λ away. absurd (away loaded.0);
    })

pub returns-clause-adds : goal.returns-clause-adds
returns-clause-adds g c =
    let loaded = c.in_ok-curve.ensures in
    sum_made c.args.self.now c.in_ok-curve.curve.setting loaded.0 loaded.1 c.args.first.now c.args.second.now
    c.in_ok-first.first (subst (λ (f : g.row.F.Denot). PlaceRead (g.F.Field.meaning f) c.in_ok-curve.curve.setting c.args.first.now (Ok c.in_ok-first.first)) loaded.2 c.in_ok-first.ensures) c.in_ok-second.second (subst (λ (f : g.row.F.Denot). PlaceRead (g.F.Field.meaning f) c.in_ok-curve.curve.setting c.args.second.now (Ok c.in_ok-second.second)) loaded.2 c.in_ok-second.ensures)
    c.add.result (subst (λ (f : g.row.F.Denot). Added (g.F.Field.meaning f) c.in_ok-curve.curve.setting c.in_ok-first.first c.in_ok-second.second c.add.result) loaded.2 c.add.ensures.sums)

pub returns-clause-line : goal.returns-clause-line
returns-clause-line g c =
    let loaded = c.in_ok-curve.ensures in
    sum_on_line c.args.self.now c.in_ok-curve.curve.setting loaded.0 loaded.1 c.args.first.now c.args.second.now
    c.in_ok-first.first (subst (λ (f : g.row.F.Denot). PlaceRead (g.F.Field.meaning f) c.in_ok-curve.curve.setting c.args.first.now (Ok c.in_ok-first.first)) loaded.2 c.in_ok-first.ensures) c.in_ok-second.second (subst (λ (f : g.row.F.Denot). PlaceRead (g.F.Field.meaning f) c.in_ok-curve.curve.setting c.args.second.now (Ok c.in_ok-second.second)) loaded.2 c.in_ok-second.ensures)
    c.add.result (subst (λ (f : g.row.F.Denot). AddedAt (g.F.Field.meaning f) c.in_ok-curve.curve.setting c.in_ok-first.first c.in_ok-second.second c.add.result) loaded.2 c.add.ensures.line)
