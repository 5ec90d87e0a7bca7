-- What holds at the end of steps along binary digits.
use Rattle.std.proofs.Common.{ℕ, ◌+◌, ◌*◌, ◌≤◌}
use Rattle.field.specs.Meaning.{Meaning, Lawful}
use Rattle.rules.specs.Settings.{Accepted}
use Rattle.ideal.specs.Values.{SettingIs}
use Rattle.ideal.specs.declared.setting.Setting.{Setting}
use Rattle.place.specs.Values.{HoldsAt}
use Rattle.place.specs.Results.{Moved}
use Rattle.place.specs.declared.place.Place.{Place}
use Rattle.place.specs.Digits.{Through, stays, steps}

-- what holds at the start and is kept by each step
pub kept : {T : Type 0} {R : T → ℕ → T → Type 0} {start : T} (P : ℕ → T → Type 0) → P 0 start
    → ((n digit : ℕ) (t r : T) → digit ≤ 1 → R t digit r → P n t → P (n * 2 + digit) r)
    → {n : ℕ} {r : T} → Through R start n r → P n r
kept P first next stays = first
kept P first next (steps {n} {digit} {t} {r} before small step) = next n digit t r small step (kept P first next before)

-- one step of a find
pub moves : {M : Meaning} {s : Setting} {p r : Place} (b c : ℕ) → Moved M s b c p r
    → (L : Lawful M) (A : Accepted L) (t : ℕ) → SettingIs L A s → HoldsAt L A t p → HoldsAt L A (t * b + c) r
unfolding Moved
moves b c moved = moved
