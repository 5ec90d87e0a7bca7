-- The question of the degree, which asks nothing of the field.
use Rattle.std.specs.Prelude.{◌≡◌, ℕ, ◌+◌, ◌%◌, ◌≤◌, Result, MatchResult}
use Rattle.field.specs.Refusals.{refusal_number}
use Rattle.field.specs.declared.refusal.Refusal.{Refusal}
use Rattle.poly.specs.Values.{size}
use Rattle.poly.specs.declared.poly.Poly.{Poly}
use Rattle.ideal.specs.declared.setting.Setting.{Setting}

-- n coefficients make an even degree from 4 to 50
abbrev pub OddLength : ℕ → Type 0
OddLength n = (n % 2 ≡ 1) × (5 ≤ n) × (n ≤ 51)

-- over whatever answers the field gives, the setting made holds D itself and half its degree, and the refusal is 21 exactly
-- where the degree is not even from 4 to 50
abbrev pub DegreeAsked : Poly → Result Setting Refusal → Type 0
DegreeAsked D r = MatchResult r
    (λ s. (s.radicand ≡ D) × (size D ≡ s.half + s.half + 1))
    (λ e. (OddLength (size D) → ¬ (refusal_number e ≡ 21)) × (¬ (OddLength (size D)) → refusal_number e ≡ 21))
