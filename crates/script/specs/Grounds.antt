-- What the codes of a setting are read as.
use Rattle.std.specs.Prelude.{◌≡◌, ℕ, ◌<◌, ◌≤◌, ◌≢◌, ◌⊎◌, List, length, Err, Result, MatchResult, slice_index}
use Rattle.field.specs.Meaning.{Meaning}
use Rattle.field.specs.declared.refusal.Refusal.{Refusal}
use Rattle.field.specs.declared.refusal.Refusal.TheVariants.{CodeTooLarge, LeadingZero}
use Rattle.poly.specs.declared.poly.Poly.{Poly}
use Rattle.ideal.specs.Results.{SettingMade}
use Rattle.ideal.specs.declared.setting.Setting.{Setting}
use Rattle.script.specs.Lists.{Spelled}

-- every code is below the size q
abbrev pub Below : ℕ → List ℕ → Type 0
Below q cs = (k : ℕ) → k < length cs → slice_index cs k < q

-- p has these codes, which are all below q, and the first of which is not 0
pub record SoundCodes (q : ℕ) (cs : List ℕ) (p : Poly) : Type 0 where
  pub below : Below q cs
  pub leading : 0 < length cs → slice_index cs 0 ≢ 0
  pub spelled : Spelled cs p

-- e is the refusal of the first question about the codes that has the answer no
abbrev pub Unspelled : ℕ → List ℕ → Refusal → Type 0
Unspelled q cs e =
    ((e ≡ CodeTooLarge) × ((k : ℕ) × (k < length cs) × (q ≤ slice_index cs k)))
    ⊎ ((e ≡ LeadingZero) × Below q cs × (0 < length cs) × (slice_index cs 0 ≡ 0))

-- the polynomial that the codes spell
abbrev pub PolynomialRead : ℕ → List ℕ → Result Poly Refusal → Type 0
PolynomialRead q cs r = MatchResult r (λ p. SoundCodes q cs p) (λ e. Unspelled q cs e)

-- the setting of that polynomial
abbrev pub SettingRead : Meaning → List ℕ → Result Setting Refusal → Type 0
SettingRead M cs r =
    ((e : Refusal) × (r ≡ Err e) × Unspelled M.size cs e)
    ⊎ ((p : Poly) × SoundCodes M.size cs p × SettingMade M p r)
