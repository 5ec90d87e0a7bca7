use Rattle.std.proofs.Common.{IfSome, sym, subst}
use Rattle.ideal.specs.Results.{SettingMade}
use Rattle.place_tests.specs.Settings.{WithTerm}
use Rattle.place_tests.proofs.Oks.{if_ok}
use Rattle.place_tests.proofs.settings.with_term.Goals as goal

pub returns : goal.returns
returns g c =
    let M = g.F.Field.meaning c.args.f.now in
    subst (λ o. IfSome o (λ s. WithTerm M c.args.degree c.args.i s)) (sym c.ok.ensures.value)
    (if_ok c.new.result (λ r. SettingMade M c.in_ok-trinomial.field-0 r) (λ s. WithTerm M c.args.degree c.args.i s)
    (λ s made. (c.in_ok-trinomial.field-0, (c.in_ok-trinomial.ensures, made))) c.new.ensures.made)
