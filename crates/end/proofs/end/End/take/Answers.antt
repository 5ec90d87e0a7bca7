use Rattle.std.proofs.Common.{Ok, Err, subst}
use Rattle.std.proofs.lemmas.Result.{err_from_is_err_and}
use Rattle.place.specs.Results.{Repeated}
use Rattle.end.specs.Results.{OfferRead}
use Rattle.end.proofs.Taking.{offer_away, trivial_offer, place_there, trivial_key, taken}
use Rattle.end.proofs.end.End.take.Goals as goal

pub returns-in_err-ideal-clause-follows : goal.returns-in_err-ideal-clause-follows
returns-in_err-ideal-clause-follows g c =
    let opened = c.in_ok-curve in
    let p = err_from_is_err_and c.from_residual-in_err-ideal.result c.from_residual-in_err-ideal.ensures.1 in
    rw (p.1, p.2) (offer_away c.args.self.now c.args.bytes.now opened.curve.setting opened.ensures.0 opened.ensures.1
    c.in_err-ideal.field-0.0 (subst (λ (f : g.row.F.Denot). OfferRead (g.F.Field.meaning f) opened.curve.setting c.args.bytes.now (Err c.in_err-ideal.field-0.0)) opened.ensures.2 c.in_err-ideal.ensures))

pub returns-then-is_one-clause-follows : goal.returns-then-is_one-clause-follows
returns-then-is_one-clause-follows g c =
    let opened = c.in_ok-curve in
    trivial_offer c.args.self.now c.args.bytes.now opened.curve.setting opened.ensures.0 opened.ensures.1
    c.in_ok-ideal.ideal (subst (λ (f : g.row.F.Denot). OfferRead (g.F.Field.meaning f) opened.curve.setting c.args.bytes.now (Ok c.in_ok-ideal.ideal)) opened.ensures.2 c.in_ok-ideal.ensures) c.is_one.result c.is_one.ensures.is c.if-is_one.true

pub returns-in_err-place-clause-follows : goal.returns-in_err-place-clause-follows
returns-in_err-place-clause-follows g c =
    let opened = c.in_ok-curve in
    let p = err_from_is_err_and c.from_residual-in_err-place.result c.from_residual-in_err-place.ensures.1 in
    rw (p.1, p.2) (place_there c.args.self.now c.args.bytes.now opened.curve.setting opened.ensures.0 opened.ensures.1
    c.in_ok-ideal.ideal (subst (λ (f : g.row.F.Denot). OfferRead (g.F.Field.meaning f) opened.curve.setting c.args.bytes.now (Ok c.in_ok-ideal.ideal)) opened.ensures.2 c.in_ok-ideal.ensures) c.is_one.result c.is_one.ensures.is
    c.in_err-place.field-0.0 c.in_err-place.ensures.made)

pub returns-then-is_one-2-clause-follows : goal.returns-then-is_one-2-clause-follows
returns-then-is_one-2-clause-follows g c =
    let opened = c.in_ok-curve in
    trivial_key c.args.self.now c.args.bytes.now opened.curve.setting opened.ensures.0 opened.ensures.1
    c.in_ok-ideal.ideal (subst (λ (f : g.row.F.Denot). OfferRead (g.F.Field.meaning f) opened.curve.setting c.args.bytes.now (Ok c.in_ok-ideal.ideal)) opened.ensures.2 c.in_ok-ideal.ensures) c.is_one.result c.is_one.ensures.is c.if-is_one.false
    c.in_ok-place.place c.in_ok-place.ensures.made c.multiple-multiple.result (subst (λ (f : g.row.F.Denot). Repeated (g.F.Field.meaning f) opened.curve.setting c.in_ok-place.place c.args.self.now.distance c.multiple-multiple.result) opened.ensures.2 c.multiple-multiple.ensures)
    c.is_one-2.result (rw c.ideal.ensures at c.is_one-2.ensures.is) c.if-is_one-2.true

pub returns-clause-follows : goal.returns-clause-follows
returns-clause-follows g c =
    let opened = c.in_ok-curve in
    taken c.args.self.now c.args.bytes.now opened.curve.setting opened.ensures.0 opened.ensures.1
    c.in_ok-ideal.ideal (subst (λ (f : g.row.F.Denot). OfferRead (g.F.Field.meaning f) opened.curve.setting c.args.bytes.now (Ok c.in_ok-ideal.ideal)) opened.ensures.2 c.in_ok-ideal.ensures) c.is_one.result c.is_one.ensures.is c.if-is_one.false
    c.in_ok-place.place c.in_ok-place.ensures.made c.multiple-multiple.result (subst (λ (f : g.row.F.Denot). Repeated (g.F.Field.meaning f) opened.curve.setting c.in_ok-place.place c.args.self.now.distance c.multiple-multiple.result) opened.ensures.2 c.multiple-multiple.ensures)
    c.is_one-2.result (rw c.ideal.ensures at c.is_one-2.ensures.is) c.if-is_one-2.false
    c.ideal-2.result.now c.ideal-2.ensures
