-- The offset of a place and the length of the step from its ideal; place 0.
use Rattle.std.proofs.Common.{◌≡◌, ℕ, ◌+◌, ◌<◌, ◌≤◌, sym, subst, arith}
use Rattle.field.specs.Meaning.{Meaning, Lawful}
use Rattle.ring.proofs.Lengths.{len_pos}
use Rattle.algebra.specs.Codes.{K}
use Rattle.algebra.specs.Places.{origin, none}
use Rattle.algebra.proofs.Line.{place_origin}
use Rattle.rules.specs.Settings.{Accepted, setting, Ideals}
use Rattle.ideal.specs.Values.{SettingIs, IdealIs}
use Rattle.ideal.specs.Results.{One}
use Rattle.ideal.specs.declared.setting.Setting.{Setting}
use Rattle.ideal.specs.declared.ideal.Ideal.{Ideal}
use Rattle.ideal.proofs.Records.{size_is}
use Rattle.place.specs.Values.{HoldsTimes}
use Rattle.place.specs.Results.{step_length, Origin, Start, NoTimes}
use Rattle.place.specs.declared.place.Place.{Place}

module _ {M : Meaning} (L : Lawful M) (A : Accepted L) {s : Setting} {a : Ideal} {x : Ideals L A} (hs : SettingIs L A s) (hx : IdealIs L A a x) (off : ℕ) where
  pub fits : off < step_length s a → off + (K L).len x.Q ≤ A.m
  fits h = omega (arith, size_is L hx.Q_is, hs.m_is, len_pos (K L) x.Q x.alive)

  pub over : step_length s a ≤ off → ¬ (off + (K L).len x.Q ≤ A.m)
  over h l = omega (arith, size_is L hx.Q_is, hs.m_is, len_pos (K L) x.Q x.alive)

pub is_origin : (p : Place) → One p.ideal → p.offset ≡ 0 → Origin p
is_origin p one e M L A = record { ideal_is = one M L A; off_is = e }

pub is_start : (p : Place) → Origin p → Start p
is_start p o M L A = (origin (K L) (setting L A), place_origin (K L) (setting L A), o M L A)

pub is_none : (p : Place) → Origin p → NoTimes p
is_none p o M L A π n e = subst (λ (k : ℕ). HoldsTimes L A π k p) (sym e) (origin (K L) (setting L A), none, o M L A)
