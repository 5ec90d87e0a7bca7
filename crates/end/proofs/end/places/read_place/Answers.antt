use Rattle.std.proofs.lemmas.Result.{err_from_is_err_and}
use Rattle.end.proofs.Placing.{ideal_away, place_read}
use Rattle.end.proofs.end.places.read_place.Goals as goal

pub returns-in_err-ideal : goal.returns-in_err-ideal
returns-in_err-ideal g c =
    let p = err_from_is_err_and c.from_residual.result c.from_residual.ensures.1 in
    rw (p.1, p.2) (ideal_away (g.F.Field.meaning c.args.curve.now.field) c.args.curve.now.setting c.args.given.now
    (c.in_field.ensures.0 c.if-not-in_field.false) (c.in_field-else-not-in_field.ensures.0 c.if-not-in_field-2.false)
    c.in_err-ideal.field-0.0 c.in_err-ideal.ensures.made)

pub returns : goal.returns
returns g c =
    place_read (g.F.Field.meaning c.args.curve.now.field) c.args.curve.now.setting c.args.given.now
    (c.in_field.ensures.0 c.if-not-in_field.false) (c.in_field-else-not-in_field.ensures.0 c.if-not-in_field-2.false)
    c.in_ok-ideal.ideal c.in_ok-ideal.ensures.made c.new-2.result c.new-2.ensures.made
