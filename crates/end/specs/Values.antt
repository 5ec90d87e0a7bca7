-- The state that the record of an end is in, over the codes of a lawful field.
use Rattle.std.specs.Prelude.{◌≡◌, ℕ, replicate}
use Rattle.field.specs.Meaning.{Meaning, Lawful}
use Rattle.rules.specs.Packets.{number}
use Rattle.rules.specs.Ends.{State, blank, ready, opened, keyed}
use Rattle.ideal.specs.Values.{SettingIs, IdealIs}
use Rattle.ideal.specs.declared.setting.Setting.{Setting}
use Rattle.ideal.specs.declared.ideal.Ideal.{Ideal}
use Rattle.poly.specs.Values.{at}
use Rattle.end.specs.declared.modes.Mode.TheVariants.{Blank, Ready, Open, Keyed}
use Rattle.end.specs.declared.end.End.{End}

-- the end e is in the state s: it has the mode, and its records hold the setting, the ideal, the own distance and the key
abbrev pub EndIs : {F : Type 0} {M : Meaning} (L : Lawful M) → End F → State L → Type 0
EndIs L e blank = e.mode ≡ Blank
EndIs L e (ready A) = (t : Setting) × (e.mode ≡ Ready t) × SettingIs L A t
EndIs L e (opened A a δ) =
    (t : Setting) × (e.mode ≡ Open t) × SettingIs L A t × IdealIs L A e.ideal a × (number e.distance ≡ δ)
EndIs L e (keyed A a δ k) =
    (t : Setting) × (e.mode ≡ Keyed t) × SettingIs L A t × IdealIs L A e.ideal a × (number e.distance ≡ δ) × IdealIs L A e.key k

-- every coefficient of Q and P is 0; such a record stands for no ideal
abbrev pub NoIdeal : Ideal → Type 0
NoIdeal a = (k : ℕ) → (at a.q k ≡ 0) × (at a.p k ≡ 0)

-- the ideal, the own distance and the key are zero
pub record Empty {F : Type 0} (e : End F) : Type 0 where
  pub ideal : NoIdeal e.ideal
  pub distance : e.distance ≡ replicate 32 0
  pub key : NoIdeal e.key
