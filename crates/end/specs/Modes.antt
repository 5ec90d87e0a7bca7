-- The modes of an end, and the calls that each allows. None of this asks anything of the field.
use Rattle.std.specs.Prelude.{◌≡◌, Err, Result}
use Rattle.field.specs.declared.refusal.Refusal.{Refusal}
use Rattle.field.specs.declared.refusal.Refusal.TheVariants.{NotReady, NothingToTell, NotOpen, NotKeyed, NotLoaded}
use Rattle.ideal.specs.declared.setting.Setting.{Setting}
use Rattle.end.specs.declared.modes.Mode.{Mode}
use Rattle.end.specs.declared.modes.Mode.TheVariants.{Blank, Ready, Open, Keyed}
use Rattle.end.specs.declared.modes.Call.{Call}
use Rattle.end.specs.declared.modes.Call.TheVariants.{Open as OpenIt, Tell, Take, Key, Find, Add}

-- the end is blank or ready
abbrev pub InBlankOrReady : Mode → Type 0
InBlankOrReady Blank = Unit {0}
InBlankOrReady (Ready t) = Unit {0}
InBlankOrReady (Open t) = ⊥
InBlankOrReady (Keyed t) = ⊥

abbrev pub InReady : Mode → Type 0
InReady Blank = ⊥
InReady (Ready t) = Unit {0}
InReady (Open t) = ⊥
InReady (Keyed t) = ⊥

abbrev pub InOpen : Mode → Type 0
InOpen Blank = ⊥
InOpen (Ready t) = ⊥
InOpen (Open t) = Unit {0}
InOpen (Keyed t) = ⊥

abbrev pub InKeyed : Mode → Type 0
InKeyed Blank = ⊥
InKeyed (Ready t) = ⊥
InKeyed (Open t) = ⊥
InKeyed (Keyed t) = Unit {0}

-- the end is open or keyed
abbrev pub InOpenOrKeyed : Mode → Type 0
InOpenOrKeyed Blank = ⊥
InOpenOrKeyed (Ready t) = ⊥
InOpenOrKeyed (Open t) = Unit {0}
InOpenOrKeyed (Keyed t) = Unit {0}

-- a setting is loaded
abbrev pub InLoaded : Mode → Type 0
InLoaded Blank = ⊥
InLoaded (Ready t) = Unit {0}
InLoaded (Open t) = Unit {0}
InLoaded (Keyed t) = Unit {0}

-- it is this one
abbrev pub Holds : Mode → Setting → Type 0
Holds Blank t = ⊥
Holds (Ready u) t = t ≡ u
Holds (Open u) t = t ≡ u
Holds (Keyed u) t = t ≡ u

-- what a call asks of the mode, and the refusal where it is not so
abbrev pub May : Mode → Call → Type 0
May m OpenIt = InReady m
May m Tell = InOpenOrKeyed m
May m Take = InOpen m
May m Key = InKeyed m
May m Find = InLoaded m
May m Add = InLoaded m

abbrev pub untimely : Call → Refusal
untimely OpenIt = NotReady
untimely Tell = NothingToTell
untimely Take = NotOpen
untimely Key = NotKeyed
untimely Find = NotLoaded
untimely Add = NotLoaded

-- wherever it is not so, the call is refused with e, over whatever answers the field gives
abbrev pub Asked : {T : Type 0} → Type 0 → Refusal → Result T Refusal → Type 0
Asked P e r = ¬ P → r ≡ Err e

-- close makes an open or keyed end ready, with the same setting
abbrev pub closed_mode : Mode → Mode
closed_mode Blank = Blank
closed_mode (Ready t) = Ready t
closed_mode (Open t) = Ready t
closed_mode (Keyed t) = Ready t
