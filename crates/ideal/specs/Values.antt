-- What the records of a setting and of an ideal stand for, over the codes of a lawful field.
use Rattle.std.specs.Prelude.{◌≡◌}
use Rattle.field.specs.Meaning.{Meaning, Lawful}
use Rattle.rules.specs.Settings.{Accepted, Ideals}
use Rattle.poly.specs.Values.{Is}
use Rattle.ideal.specs.declared.setting.Setting.{Setting}
use Rattle.ideal.specs.declared.ideal.Ideal.{Ideal}

module _ {M : Meaning} (L : Lawful M) (A : Accepted L) where
  -- the record holds the accepted setting A: D, d and m
  pub record SettingIs (s : Setting) : Type 0 where
    pub D_is : Is L s.radicand A.D
    pub d_is : Is L s.root A.d
    pub m_is : s.half ≡ A.m

  -- the record holds the ideal x
  pub record IdealIs (a : Ideal) (x : Ideals L A) : Type 0 where
    pub Q_is : Is L a.q x.Q
    pub P_is : Is L a.p x.P
