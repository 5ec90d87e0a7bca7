-- What the functions on settings and ideals give: the relations of the rules, between what the records stand for.
use Rattle.std.specs.Prelude.{◌≡◌, ℕ, ◌+◌, ◌≤◌, Bool, ◌≢◌, Decides, Result, MatchResult}
use Rattle.field.specs.Meaning.{Meaning, Lawful}
use Rattle.field.specs.Refusals.{refusal_number}
use Rattle.field.specs.declared.refusal.Refusal.{Refusal}
use Rattle.ring.proofs.Ring.{Divides}
use Rattle.algebra.specs.Codes.{R, K}
use Rattle.algebra.specs.Ideals.{Standard, StandardForm}
use Rattle.algebra.specs.Steps.{StepTo}
use Rattle.algebra.specs.Products.{Product}
use Rattle.algebra.specs.Places.{Reduces}
use Rattle.rules.specs.Questions.{Answers, accepted, refused}
use Rattle.rules.specs.Settings.{Accepted, setting, setting_asks, Ideals, unit_ideal}
use Rattle.rules.specs.Ends.{ideal_asks}
use Rattle.poly.specs.Values.{Is}
use Rattle.poly.specs.declared.poly.Poly.{Poly}
use Rattle.ideal.specs.Values.{SettingIs, IdealIs}
use Rattle.ideal.specs.declared.setting.Setting.{Setting}
use Rattle.ideal.specs.declared.ideal.Ideal.{Ideal}

-- the setting of D, or the number of the first of its questions with the answer no
abbrev pub SettingMade : Meaning → Poly → Result Setting Refusal → Type 0
SettingMade M D r = (L : Lawful M) (x : R L) → Is L D x
    → MatchResult r
    (λ s. Answers (setting_asks L x) accepted × ((A : Accepted L) × (A.D ≡ x) × SettingIs L A s))
    (λ e. Answers (setting_asks L x) (refused (refusal_number e)))

-- the ideal (Q, P), reduced and in standard form, or the number of the first of its questions with the answer no
abbrev pub IdealMade : Meaning → Setting → Poly → Poly → Result Ideal Refusal → Type 0
IdealMade M s q p r = (L : Lawful M) (A : Accepted L) (x y : R L) → SettingIs L A s → Is L q x → Is L p y
    → MatchResult r
    (λ a. Answers (ideal_asks L A x y) accepted × ((b : Ideals L A) × (b.Q ≡ x) × (b.P ≡ y) × Standard (K L) (setting L A) b × IdealIs L A a b))
    (λ e. Answers (ideal_asks L A x y) (refused (refusal_number e)))

-- a is (1)
abbrev pub One : Ideal → Type 0
One a = (M : Meaning) (L : Lawful M) (A : Accepted L) → IdealIs L A a (unit_ideal L A)

-- r says whether a, which is in standard form, is (1)
abbrev pub IsOne : Ideal → Bool → Type 0
IsOne a r = (M : Meaning) (L : Lawful M) (A : Accepted L) (x : Ideals L A) → IdealIs L A a x → Standard (K L) (setting L A) x
    → Decides r (x ≡ unit_ideal L A)

-- b is the standard form of (Q, P), where Q is not 0 and divides D − P·P
abbrev pub Standardized : Meaning → Poly → Poly → Ideal → Type 0
Standardized M q p b = (L : Lawful M) (A : Accepted L) (x y : R L) → Is L q x → Is L p y
    → x ≢ (K L).r.𝟘 → Divides (K L).r x ((K L).r.◌⊕◌ A.D ((K L).r.⊖◌ ((K L).r.◌⊗◌ y y)))
    → (z : Ideals L A) × StandardForm (K L) (setting L A) x y z × IdealIs L A b z

-- b is the next ideal after a, and far is the degree of P' + d, plus one. Q may be as long as that of a product of two reduced ideals.
abbrev pub Stepped : Meaning → Setting → Ideal → Ideal → ℕ → Type 0
Stepped M s a b far = (L : Lawful M) (A : Accepted L) (x : Ideals L A) → SettingIs L A s → IdealIs L A a x
    → Standard (K L) (setting L A) x → (K L).len x.Q ≤ A.m + A.m
    → (y : Ideals L A) × StepTo (K L) (setting L A) x y far × IdealIs L A b y

-- c is the product of the reduced ideals a and b in standard form, and g the divisor S that is taken out. The multipliers are open.
abbrev pub Multiplied : Meaning → Setting → Ideal → Ideal → Ideal → Poly → Type 0
Multiplied M s a b c g = (L : Lawful M) (A : Accepted L) (x y : Ideals L A) → SettingIs L A s → IdealIs L A a x → IdealIs L A b y
    → Standard (K L) (setting L A) x → Standard (K L) (setting L A) y → (K L).len x.Q ≤ A.m → (K L).len y.Q ≤ A.m
    → (S : R L) × (Qc : R L) × (Pc : R L) × (z : Ideals L A) × Product (K L) (setting L A) x y S Qc Pc × StandardForm (K L) (setting L A) Qc Pc z × IdealIs L A c z × Is L g S

-- b is what reduction makes of a, which may be as long as a product of two reduced ideals; saved is the sum of the lengths of its
-- steps with the sign changed
abbrev pub Reduced : Meaning → Setting → Ideal → Ideal → ℕ → Type 0
Reduced M s a b saved = (L : Lawful M) (A : Accepted L) (x : Ideals L A) → SettingIs L A s → IdealIs L A a x
    → Standard (K L) (setting L A) x → (K L).len x.Q ≤ A.m + A.m
    → (y : Ideals L A) × Reduces (K L) (setting L A) x y saved × IdealIs L A b y
