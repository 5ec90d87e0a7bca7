use Rattle.std.proofs.Common.{ℕ, subst, rules, arith}
use Rattle.std.proofs.lemmas.Grind.{common_steps}
use Rattle.place.specs.Values.{HoldsAt}
use Rattle.place.specs.Results.{Moved}
use Rattle.place.proofs.Steps.{kept, moves}
use Rattle.place.proofs.place.Place.find.Goals as goal

pub returns : goal.returns
returns g c = λ L A hs. subst (λ (n : ℕ). HoldsAt L A n c.fold_digits.result) (grind (arith, common_steps))
    (kept (HoldsAt L A) (c.origin.ensures.line _ L A)
    (λ n digit t r small step h.
    let moved : Moved (g.F.Field.meaning c.args.curve.now.field) c.args.curve.now.setting 2 digit t r = search rules in
    moves 2 digit moved L A n hs h)
    c.fold_digits.ensures)
