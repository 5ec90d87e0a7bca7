-- The settings that are tried, one after the other, where a test needs one of a degree.
use Rattle.std.specs.Prelude.{◌≡◌, ◌≢◌, ℕ, ◌≤◌}
use Rattle.std.specs.Prelude.Result.{Ok}
use Rattle.field.specs.Meaning.{Meaning}
use Rattle.poly.specs.Values.{at}
use Rattle.poly.specs.declared.poly.Poly.{Poly}
use Rattle.ideal.specs.Results.{SettingMade}
use Rattle.ideal.specs.declared.setting.Setting.{Setting}

-- p is x^n + i·x + 1
abbrev pub Trinomial : ℕ → ℕ → Poly → Type 0
Trinomial n i p = 2 ≤ n
    → (at p 0 ≡ 1) × (at p 1 ≡ i) × (at p n ≡ 1) × ((k : ℕ) → k ≢ 0 → k ≢ 1 → k ≢ n → at p k ≡ 0)

-- s is the setting of x^n + i·x + 1
abbrev pub WithTerm : Meaning → ℕ → ℕ → Setting → Type 0
WithTerm M n i s = (p : Poly) × (Trinomial n i p × SettingMade M p (Ok s))
