-- What find and add give: places by the rules, as records and as the codes that they show.
use Rattle.std.specs.Prelude.{◌≡◌, ℕ, ◌+◌, List, Result, MatchResult}
use Rattle.field.specs.Meaning.{Meaning, Lawful}
use Rattle.field.specs.Refusals.{refusal_number}
use Rattle.field.specs.declared.refusal.Refusal.{Refusal}
use Rattle.algebra.specs.Codes.{K}
use Rattle.algebra.specs.Places.{LawfulPlace}
use Rattle.algebra.specs.Lines.{PlaceAt}
use Rattle.rules.specs.Questions.{Answers, accepted, refused}
use Rattle.rules.specs.Packets.{number}
use Rattle.rules.specs.Settings.{Accepted, setting}
use Rattle.rules.specs.Ends.{State, blank, ready, opened, keyed}
use Rattle.rules.specs.Places.{Given, Places, Means, Shows, place_asks, find_asks, FindGives, add_asks, AddGives}
use Rattle.packet.specs.Polynomials.{codes_down}
use Rattle.ideal.specs.Values.{SettingIs}
use Rattle.ideal.specs.declared.setting.Setting.{Setting}
use Rattle.place.specs.Values.{PlaceIs, HoldsAt}
use Rattle.place.specs.declared.place.Place.{Place}
use Rattle.end.specs.declared.end.End.{End}
use Rattle.end.specs.declared.end.GivenPlace.{GivenPlace}
use Rattle.end.specs.Values.{EndIs}

-- a place that is handed in, and one that is given out: the codes of Q and P from the highest degree down, and the offset
abbrev pub given : GivenPlace → Given
given g = record { Q = codes_down g.q; P = codes_down g.p; off = g.offset }

abbrev pub shown : Place → Given
shown p = record { Q = codes_down p.ideal.q; P = codes_down p.ideal.p; off = p.offset }

-- it is so of the setting that is loaded
abbrev pub Under : {M : Meaning} (L : Lawful M) → State L → (Accepted L → Type 0) → Type 0
Under L blank P = ⊥
Under L (ready A) P = P A
Under L (opened A a δ) P = P A
Under L (keyed A a δ k) P = P A

-- the lawful place that g is read as, or the number of the first of its questions with the answer no
abbrev pub PlaceRead : Meaning → Setting → GivenPlace → Result Place Refusal → Type 0
PlaceRead M t g r = (L : Lawful M) (A : Accepted L) → SettingIs L A t → MatchResult r
    (λ p. Answers (place_asks L A (given g)) accepted
    × ((π : Places L A) × Means L A (given g) π × LawfulPlace (K L) (setting L A) π × PlaceIs L A p π))
    (λ e. Answers (place_asks L A (given g)) (refused (refusal_number e)))

-- find answers as the rules say, and gives place n
abbrev pub Finds : {F : Type 0} → Meaning → End F → List ℕ → Result Place Refusal → Type 0
Finds M e n r = (L : Lawful M) (s : State L) → EndIs L e s → MatchResult r
    (λ p. Answers (find_asks L s n) accepted × Under L s (λ A. HoldsAt L A (number n) p × FindGives L A n (shown p)))
    (λ f. Answers (find_asks L s n) (refused (refusal_number f)))

-- add answers as the rules say, and gives the sum
abbrev pub Adds : {F : Type 0} → Meaning → End F → GivenPlace → GivenPlace → Result Place Refusal → Type 0
Adds M e g h r = (L : Lawful M) (s : State L) → EndIs L e s → MatchResult r
    (λ p. Answers (add_asks L s (given g) (given h)) accepted × Under L s (λ A. AddGives L A (given g) (given h) (shown p)))
    (λ f. Answers (add_asks L s (given g) (given h)) (refused (refusal_number f)))

-- adding place i and place j gives place i + j, and is never refused
abbrev pub AddsOnLine : {F : Type 0} → Meaning → End F → GivenPlace → GivenPlace → Result Place Refusal → Type 0
AddsOnLine M e g h r = (L : Lawful M) (s : State L) → EndIs L e s → (A : Accepted L) → Under L s (λ B. B ≡ A) → (i j : ℕ) (π ρ : Places L A)
    → PlaceAt (K L) (setting L A) i π → PlaceAt (K L) (setting L A) j ρ → Shows L A π (given g) → Shows L A ρ (given h)
    → MatchResult r (λ p. HoldsAt L A (i + j) p) (λ f. ⊥)
