use Rattle.std.proofs.Common.{◌≤◌}
use Rattle.field.specs.Meaning.{Lawful}
use Rattle.algebra.specs.Codes.{K}
use Rattle.algebra.specs.Ideals.{Standard}
use Rattle.rules.specs.Settings.{Accepted, setting, Ideals}
use Rattle.ideal.specs.Values.{SettingIs, IdealIs}
use Rattle.place.proofs.Walking.{Walking}
use Rattle.place.proofs.place.add.walk.Given as goal

abbrev pub invariant-loop : goal.invariant-loop
invariant-loop g l = (L : Lawful (g.F.Field.meaning l.curve.field)) (A : Accepted L) (x : Ideals L A) → SettingIs L A l.curve.setting → IdealIs L A l.start.ideal x
    → Standard (K L) (setting L A) x → (K L).len x.Q ≤ A.m → Walking L A x l.start.offset l.counter l.place
