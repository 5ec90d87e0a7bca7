-- The setting that was read is accepted over a lawful field.
use Rattle.std.proofs.Common.{◌≡◌, ℕ, ◌-◌, ◌<◌, List, length, Ok, Err, Result, IfOk, MatchResult, sym, ap, ◌∙◌, subst, ⊎_elim, arith}
use Rattle.std.proofs.lemmas.Bool.{cases_lt, false≢true}
use Rattle.std.specs.Result.{is_ok}
use Rattle.field.specs.Meaning.{Meaning, Lawful}
use Rattle.field.specs.declared.refusal.Refusal.{Refusal}
use Rattle.rules.specs.Settings.{Accepted}
use Rattle.poly.specs.Values.{Codes}
use Rattle.poly.specs.declared.poly.Poly.{Poly}
use Rattle.poly.proofs.Bridge.{self}
use Rattle.ideal.specs.Values.{SettingIs}
use Rattle.ideal.specs.Results.{SettingMade}
use Rattle.ideal.specs.declared.setting.Setting.{Setting}
use Rattle.script.specs.Grounds.{SoundCodes, SettingRead}

-- codes below the size, and zeros above them
all_codes : {M : Meaning} {cs : List ℕ} (p : Poly) → Lawful M → SoundCodes M.size cs p → Codes M p
all_codes {cs = cs} p L ok k =
    ⊎_elim
    (λ h. let e = ok.spelled.0 k h in let b = ok.below _ (let i : length cs - 1 - k < length cs = omega arith in i) in omega (arith, e, b))
    (λ h. omega (arith, ok.spelled.1 k h, L.low)) (cases_lt k (length cs))

pub grounded : {M : Meaning} {cs : List ℕ} {r : Result Setting Refusal} {s : Setting} → r ≡ Ok s → SettingRead M cs r
    → (L : Lawful M) → (A : Accepted L) × SettingIs L A s
grounded {M = M} {cs = cs} {r = r} {s = s} e h L = ⊎_elim (λ x. absurd (never x.0 (sym x.1 ∙ e))) (λ x. accepted x) h
  where
    never : (w : Refusal) → Err w ≡ Ok s → ⊥
    never w q = let z : ◌≡◌ {A = ℕ} 0 1 = cc in omega arith

    accepted : (p : Poly) × SoundCodes M.size cs p × SettingMade M p r → (A : Accepted L) × SettingIs L A s
    accepted x =
        let made : SettingMade M x.0 (Ok s) = subst (λ (y : Result Setting Refusal). SettingMade M x.0 y) e x.2 in
        let (A, same, is) = (made L _ (self L x.0 (all_codes x.0 L x.1))).1 in
        (A, is)

-- what holds of a value holds of it after its error is turned into another
pub turned : {T E D : Type 0} (P : T → Type 0) (Q : E → Type 0) (r : Result T E) (s : Result T D) (x : T) → IfOk r P
    → MatchResult r (λ y. s ≡ Ok y) Q → is_ok s ≡ is_ok r → s ≡ Ok x → P x
turned P Q (Ok y) s x h e v is = let same : y ≡ x = cc (e, is) in subst P same h
turned P Q (Err d) s x h e v is = absurd (false≢true (sym v ∙ ap is_ok is))
