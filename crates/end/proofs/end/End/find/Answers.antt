use Rattle.std.proofs.Common.{subst}
use Rattle.place.specs.Results.{Found}
use Rattle.end.proofs.Placing.{found_place}
use Rattle.end.proofs.end.End.find.Goals as goal

pub returns-clause-finds : goal.returns-clause-finds
returns-clause-finds g c =
    let loaded = c.in_ok-curve.ensures in
    found_place c.args.self.now c.in_ok-curve.curve.setting loaded.0 loaded.1 c.args.number.now c.find.result
    (c.is_number.ensures.0 c.if-not-is_number.false)
    (subst (λ (f : g.row.F.Denot). Found (g.F.Field.meaning f) c.in_ok-curve.curve.setting c.args.number.now c.find.result) loaded.2 c.find.ensures)
