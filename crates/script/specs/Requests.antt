-- The place that answers a request.
use Rattle.std.specs.Prelude.{ℕ, ◌+◌, ◌*◌}
use Rattle.field.specs.Meaning.{Meaning, Lawful}
use Rattle.rules.specs.Packets.{number}
use Rattle.rules.specs.Settings.{Accepted}
use Rattle.ideal.specs.Values.{SettingIs}
use Rattle.ideal.specs.declared.setting.Setting.{Setting}
use Rattle.place.specs.Values.{HoldsAt}
use Rattle.place.specs.declared.place.Place.{Place}
use Rattle.script.specs.declared.request.Request.{Request}
use Rattle.script.specs.declared.request.Request.TheVariants.{Find, Add, Multiple}

-- the number of the place that is asked for
abbrev pub place_number : Request → ℕ
place_number (Find n) = number n.bytes
place_number (Add i j) = number i.bytes + number j.bytes
place_number (Multiple n t) = number n.bytes * number t.bytes

-- r is the place of that number
pub record Asked (M : Meaning) (s : Setting) (q : Request) (r : Place) : Type 0 where
  pub holds : (L : Lawful M) (A : Accepted L) → SettingIs L A s → HoldsAt L A (place_number q) r
