use Rattle.std.proofs.Common.{◌≡◌}
use Rattle.field.specs.Meaning.{Lawful}
use Rattle.rules.specs.Settings.{Accepted}
use Rattle.poly.specs.Values.{Is}
use Rattle.ideal.proofs.Rooting.{Filled}
use Rattle.ideal.proofs.setting.make.root.Given as goal

abbrev pub invariant-loop-i : goal.invariant-loop-i
invariant-loop-i g l = (L : Lawful (g.F.Field.meaning l.f)) (A : Accepted L) → Is L l.radicand A.D → l.half ≡ A.m → Filled L A l.d l.i
