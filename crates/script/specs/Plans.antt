-- What is known of a plan while it is read.
use Rattle.std.specs.Prelude.{◌≤◌}
use Rattle.field.specs.Meaning.{Lawful}
use Rattle.rules.specs.Settings.{Accepted}
use Rattle.ideal.specs.Values.{SettingIs}
use Rattle.ideal.specs.declared.setting.Setting.{Setting as SettingRecord}
use Rattle.tower.specs.Towers.{tower_meaning}
use Rattle.tower.specs.declared.tower.Tower.{Tower}
use Rattle.script.specs.declared.plan.Plan.{Plan}
use Rattle.script.specs.declared.plan.Item.{Item}
use Rattle.script.specs.declared.plan.Item.TheVariants.{Prime, Extend, Setting, Steps, Ask}
use Rattle.script.specs.declared.plan.Draft.{Draft}
use Rattle.script.specs.declared.plan.Draft.TheVariants.{Blank, Field, Ground, Whole}

-- the field keeps the laws
abbrev pub LawfulTower : Tower → Type 0
LawfulTower t = Lawful (tower_meaning t)

-- the field keeps the laws, and the setting is an accepted one above it
abbrev pub Grounded : Tower → SettingRecord → Type 0
Grounded f s = (L : LawfulTower f) × (A : Accepted L) × SettingIs L A s

-- a plan on firm ground that is not too long
abbrev pub SoundPlan : Plan → Type 0
SoundPlan p = Grounded p.curve.field p.curve.setting × (p.steps ≤ 1000000)

-- the same of as much as has been read
abbrev pub Sound : Draft → Type 0
Sound Blank = Unit {0}
Sound (Field f) = LawfulTower f
Sound (Ground c) = Grounded c.field c.setting
Sound (Whole p) = SoundPlan p

-- the number of steps on a line is not too large
abbrev pub Short : Item → Type 0
Short (Prime p) = Unit {0}
Short (Extend n) = Unit {0}
Short (Setting c) = Unit {0}
Short (Steps k) = k ≤ 1000000
Short (Ask r) = Unit {0}
