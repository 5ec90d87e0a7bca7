-- What the record of a place stands for, over the codes of a lawful field.
use Rattle.std.specs.Prelude.{◌≡◌, ℕ}
use Rattle.field.specs.Meaning.{Meaning, Lawful}
use Rattle.algebra.specs.Codes.{K}
use Rattle.algebra.specs.Places.{Times}
use Rattle.algebra.specs.Lines.{PlaceAt}
use Rattle.rules.specs.Settings.{Accepted, setting}
use Rattle.rules.specs.Places.{Places}
use Rattle.ideal.specs.Values.{IdealIs}
use Rattle.place.specs.declared.place.Place.{Place}

module _ {M : Meaning} (L : Lawful M) (A : Accepted L) where
  -- the record holds the place π
  pub record PlaceIs (p : Place) (π : Places L A) : Type 0 where
    pub ideal_is : IdealIs L A p.ideal π.ideal
    pub off_is : p.offset ≡ π.off

  -- the record holds place t of the line
  abbrev pub HoldsAt : ℕ → Place → Type 0
  HoldsAt t p = (σ : Places L A) × PlaceAt (K L) (setting L A) t σ × PlaceIs p σ

  -- the record holds n times the place π
  abbrev pub HoldsTimes : Places L A → ℕ → Place → Type 0
  HoldsTimes π n p = (σ : Places L A) × Times (K L) (setting L A) π n σ × PlaceIs p σ
