use Rattle.std.proofs.Common.{subst}
use Rattle.script.specs.Plans.{Sound, LawfulTower}
use Rattle.script.proofs.Grounding.{grounded}
use Rattle.script.proofs.plan.Draft.with.Goals as goal

pub returns-in_ok-setting-in-Field-Setting : goal.returns-in_ok-setting-in-Field-Setting
returns-in_ok-setting-in-Field-Setting c =
    let L : LawfulTower c.in-Field-Setting.field = subst Sound c.in-Field-Setting.is-0 c.requires.sound in
    let (A, is) = grounded c.in_ok-setting-in-Field-Setting.was c.setting.ensures L in
    (L, A, is)
