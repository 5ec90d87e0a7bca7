-- The walk along the line of a setting.
use Rattle.std.specs.Prelude.{◌≡◌, ◌+◌, ◌-◌, ◌^◌, ◌<◌, min, Option, MatchOption}
use Rattle.field.specs.Meaning.{Meaning, Lawful}
use Rattle.algebra.specs.Codes.{K}
use Rattle.algebra.specs.Lines.{Line}
use Rattle.rules.specs.Settings.{Accepted, setting, Ideals}
use Rattle.ideal.specs.Values.{SettingIs, IdealIs}
use Rattle.ideal.specs.declared.setting.Setting.{Setting}
use Rattle.tower.specs.Towers.{tower_meaning}
use Rattle.script.specs.declared.plan.Plan.{Plan}
use Rattle.script.specs.declared.walk.Stop.{Stop}
use Rattle.script.specs.declared.walk.Walk.{Walk}

-- the stop holds the ideal of its index on the line, at its distance
abbrev pub OnLine : Meaning → Setting → Stop → Type 0
OnLine M s x =
    (L : Lawful M) (A : Accepted L)
    → SettingIs L A s → (a : Ideals L A) × Line (K L) (setting L A) x.index a x.distance × IdealIs L A x.ideal a

-- the stop holds the start of every line
abbrev pub Start : Stop → Type 0
Start x = (M : Meaning) (s : Setting) → OnLine M s x

-- the stop is on the line of the plan
abbrev pub OnPlan : Plan → Stop → Type 0
OnPlan p x = OnLine (tower_meaning p.curve.field) p.curve.setting x

-- the walk of the plan stands at the start
abbrev pub Ready : Plan → Walk → Type 0
Ready p w = (w.plan.now ≡ p) × (w.stop.index ≡ 0) × Start w.stop × (w.left ≡ min (p.steps + 1) (2 ^ 32 - 1))

-- one stop is given out, and the walk goes on to the next
abbrev pub Walked : Walk → Option Stop → Walk → Type 0
Walked w r v =
    MatchOption r ((w.left ≡ 0) × (v ≡ w))
    (λ x.
    (x ≡ w.stop)
    × (v.plan ≡ w.plan)
    × (w.left ≡ v.left + 1)
    × (v.stop.index ≡ min (x.index + 1) (2 ^ 32 - 1))
    × (x.index + 1 < 2 ^ 32 → OnPlan w.plan.now x → OnPlan w.plan.now v.stop))
