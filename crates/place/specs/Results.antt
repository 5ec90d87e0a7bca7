-- What the functions on places give: the relations of the rules, between what the records stand for.
use Rattle.std.specs.Prelude.{◌≡◌, ℕ, ◌+◌, ◌-◌, ◌*◌, ◌^◌, ◌<◌, ◌≤◌, List, [], ◌∷◌, Option, Result, MatchOption, MatchResult}
use Rattle.field.specs.Meaning.{Meaning, Lawful}
use Rattle.field.specs.Refusals.{refusal_number}
use Rattle.field.specs.declared.refusal.Refusal.{Refusal}
use Rattle.field.specs.declared.refusal.Refusal.TheVariants.{OffsetTooLarge}
use Rattle.algebra.specs.Codes.{R, K}
use Rattle.algebra.specs.Ideals.{Standard}
use Rattle.algebra.specs.Places.{place, origin, LawfulPlace, Adds, AddsTo, Walks}
use Rattle.rules.specs.Questions.{Question, ◌if_not◌, Answers, accepted, refused}
use Rattle.rules.specs.Packets.{number}
use Rattle.rules.specs.Settings.{Accepted, setting, Ideals}
use Rattle.rules.specs.Places.{Places}
use Rattle.poly.specs.Values.{size}
use Rattle.ideal.specs.Values.{SettingIs, IdealIs}
use Rattle.ideal.specs.Results.{Stepped, Multiplied, Reduced}
use Rattle.ideal.specs.declared.setting.Setting.{Setting}
use Rattle.ideal.specs.declared.ideal.Ideal.{Ideal}
use Rattle.place.specs.Values.{PlaceIs, HoldsAt, HoldsTimes}
use Rattle.place.specs.declared.place.Place.{Place}
use Rattle.place.specs.declared.place.GiantStep.{GiantStep}

-- m − deg Q, the length of the step from a reduced ideal
abbrev pub step_length : Setting → Ideal → ℕ
step_length s a = s.half - (size a.q - 1)

-- (1) with the offset 0
abbrev pub Origin : Place → Type 0
Origin r = (M : Meaning) (L : Lawful M) (A : Accepted L) → PlaceIs L A r (origin (K L) (setting L A))

-- place 0 of the line
abbrev pub Start : Place → Type 0
Start r = (M : Meaning) (L : Lawful M) (A : Accepted L) → HoldsAt L A 0 r

-- 0 times every place
abbrev pub NoTimes : Place → Type 0
NoTimes r = (M : Meaning) (L : Lawful M) (A : Accepted L) (π : Places L A) (n : ℕ) → n ≡ 0 → HoldsTimes L A π n r

-- the place of the ideal and the offset is given exactly where the offset is below the length of the step; this asks nothing of
-- the field
abbrev pub Fitted : Setting → Ideal → ℕ → Result Place Refusal → Type 0
Fitted s a off r = MatchResult r
    (λ p. (off < step_length s a) × (p.ideal ≡ a) × (p.offset ≡ off))
    (λ e. (step_length s a ≤ off) × (e ≡ OffsetTooLarge))

-- the question of an offset: is it below m − deg Q? If not, 46
abbrev pub offset_asks : {M : Meaning} (L : Lawful M) → Accepted L → R L → ℕ → List Question
offset_asks L A Q off = (off + (K L).len Q ≤ A.m if_not 46) ∷ []

-- the place of a reduced ideal and an offset, or the number of its question with the answer no
abbrev pub PlaceMade : Setting → Ideal → ℕ → Result Place Refusal → Type 0
PlaceMade s a off r = (M : Meaning) (L : Lawful M) (A : Accepted L) (x : Ideals L A) → SettingIs L A s → IdealIs L A a x
    → Standard (K L) (setting L A) x
    → MatchResult r
    (λ p. Answers (offset_asks L A x.Q off) accepted × LawfulPlace (K L) (setting L A) (place (K L) (setting L A) x off)
    × PlaceIs L A p (place (K L) (setting L A) x off))
    (λ e. Answers (offset_asks L A x.Q off) (refused (refusal_number e)))

-- r is a step of the walk from p, whose offset is the gap that is left. There is none where the gap is below the length of the
-- step; a gap equal to it takes the step.
abbrev pub Paced : Meaning → Setting → Place → Option Place → Type 0
Paced M s p r = MatchOption r
    (p.offset < step_length s p.ideal)
    (λ q. (step_length s p.ideal ≤ p.offset) × (q.offset ≡ p.offset - step_length s p.ideal)
    × ((far : ℕ) × Stepped M s p.ideal q.ideal far))

-- r is where the walk from the reduced ideal of p ends, the offset of p being the gap. A gap of at most 4·m takes at most 4·m steps.
abbrev pub Walked : Meaning → Setting → Place → Place → Type 0
Walked M s p r = (L : Lawful M) (A : Accepted L) (x : Ideals L A) → SettingIs L A s → IdealIs L A p.ideal x
    → Standard (K L) (setting L A) x → (K L).len x.Q ≤ A.m → p.offset ≤ 4 * A.m
    → (σ : Places L A) × Walks (K L) (setting L A) x p.offset σ.ideal σ.off × PlaceIs L A r σ

-- g is the product of the ideals a and b, reduced, with the divisor S of the product and what the reduction saved
pub record GiantMade (M : Meaning) (s : Setting) (a b : Ideal) (g : GiantStep) : Type 0 where
  pub whole : Ideal
  pub multiplied : Multiplied M s a b whole g.divisor
  pub reduced : Reduced M s whole g.ideal g.saved

-- both offsets less the shortfall − deg S − saved, where that fits its type
abbrev pub Gap : GiantStep → ℕ → ℕ → Type 0
Gap g offsets r = offsets + (size g.divisor - 1) + g.saved < 2 ^ 64 → r ≡ offsets + (size g.divisor - 1) + g.saved

-- r is the sum of the lawful places p and q with a gap that is greater by `more`, 0 or 1: the sum of p at an offset f that is greater
-- by that, and q
abbrev pub Summed : Meaning → Setting → Place → Place → ℕ → Place → Type 0
Summed M s p q more r = (L : Lawful M) (A : Accepted L) (π ρ : Places L A) (f : ℕ) → SettingIs L A s → PlaceIs L A p π
    → PlaceIs L A q ρ → LawfulPlace (K L) (setting L A) π → LawfulPlace (K L) (setting L A) ρ → more ≤ 1 → f ≡ π.off + more
    → (σ : Places L A) × Adds (K L) (setting L A) π.ideal f ρ.ideal ρ.off σ.ideal σ.off × PlaceIs L A r σ

-- so place i and place j give place i + j + more
abbrev pub SummedAt : Meaning → Setting → Place → Place → ℕ → Place → Type 0
SummedAt M s p q more r = (L : Lawful M) (A : Accepted L) (i j n : ℕ) → SettingIs L A s → HoldsAt L A i p → HoldsAt L A j q
    → more ≤ 1 → n ≡ i + j + more → HoldsAt L A n r

-- r is the sum of the lawful places p and q, on the line or off it
abbrev pub Added : Meaning → Setting → Place → Place → Place → Type 0
Added M s p q r = (L : Lawful M) (A : Accepted L) (π ρ : Places L A) → SettingIs L A s → PlaceIs L A p π → PlaceIs L A q ρ
    → LawfulPlace (K L) (setting L A) π → LawfulPlace (K L) (setting L A) ρ
    → (σ : Places L A) × AddsTo (K L) (setting L A) π ρ σ × PlaceIs L A r σ

-- the addition of places: place i and place j add to place i + j
abbrev pub AddedAt : Meaning → Setting → Place → Place → Place → Type 0
AddedAt M s p q r = (L : Lawful M) (A : Accepted L) (i j : ℕ) → SettingIs L A s → HoldsAt L A i p → HoldsAt L A j q
    → HoldsAt L A (i + j) r

-- from place t to place b·t + c
unfoldable pub Moved : Meaning → Setting → ℕ → ℕ → Place → Place → Type 0
Moved M s b c p r = (L : Lawful M) (A : Accepted L) (t : ℕ) → SettingIs L A s → HoldsAt L A t p → HoldsAt L A (t * b + c) r

-- r is place n, n being given by bytes
abbrev pub Found : Meaning → Setting → List ℕ → Place → Type 0
Found M s n r = (L : Lawful M) (A : Accepted L) → SettingIs L A s → HoldsAt L A (number n) r

-- n times the place π, with nothing there while n is 0
abbrev pub SoFar : {M : Meaning} (L : Lawful M) (A : Accepted L) → Places L A → ℕ → Option Place → Type 0
SoFar L A π n o = MatchOption o (n ≡ 0) (λ q. HoldsTimes L A π n q)

-- from n times the place p to b·n + c times p
abbrev pub Raised : Meaning → Setting → Place → ℕ → ℕ → Option Place → Option Place → Type 0
Raised M s p b c o r = (L : Lawful M) (A : Accepted L) (π : Places L A) (n : ℕ) → SettingIs L A s → PlaceIs L A p π
    → LawfulPlace (K L) (setting L A) π → SoFar L A π n o → SoFar L A π (n * b + c) r

-- r is n times the lawful place p, n being given by bytes
abbrev pub Repeated : Meaning → Setting → Place → List ℕ → Place → Type 0
Repeated M s p n r = (L : Lawful M) (A : Accepted L) (π : Places L A) → SettingIs L A s → PlaceIs L A p π
    → LawfulPlace (K L) (setting L A) π → HoldsTimes L A π (number n) r
