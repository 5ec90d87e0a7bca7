use Rattle.std.proofs.Common.{rules, refl, sym, subst}
use Rattle.rules.specs.Packets.{number}
use Rattle.place.specs.Values.{HoldsTimes}
use Rattle.place.specs.Results.{SoFar, Raised}
use Rattle.place.specs.declared.place.Place.{Place}
use Rattle.place.proofs.Steps.{kept}
use Rattle.place.proofs.Repeating.{settled}
use Rattle.place.proofs.place.Place.multiple.Goals as goal

pub returns : goal.returns
returns g c = λ L A π hs hp l.
    let held = kept (SoFar L A π) refl
    (λ n digit t r small step h.
    let raised : Raised (g.F.Field.meaning c.args.curve.now.field) c.args.curve.now.setting c.args.self.now 2 digit t r = search rules in
    raised L A π n hs hp l h)
    c.fold_digits.ensures in
    subst (λ (p : Place). HoldsTimes L A π (number c.args.number.now) p) (sym c.unwrap_or.ensures) (settled L A c.fold_digits.result c.origin.ensures.times held)
