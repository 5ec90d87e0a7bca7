-- What the calls of an end give: each is a step of the rules.
use Rattle.std.specs.Prelude.{◌≡◌, ℕ, ◌≤◌, List, [], ◌++◌, length, take, drop, Ok, Err, Result, MatchResult}
use Rattle.field.specs.Meaning.{Meaning, Lawful}
use Rattle.field.specs.declared.refusal.Refusal.{Refusal}
use Rattle.field.specs.Refusals.{refusal_number}
use Rattle.algebra.specs.Codes.{K}
use Rattle.algebra.specs.Ideals.{LawfulAt}
use Rattle.rules.specs.Questions.{Question, Answer, accepted, refused, answer_of, Answers}
use Rattle.rules.specs.Packets.{body, first, second}
use Rattle.rules.specs.Settings.{Accepted, setting, setting_asks, Ideals, poly_of}
use Rattle.rules.specs.Ends.{State, Call, load, «open», tell, take as takes, key, close, ideal_asks, Reads, Does}
use Rattle.packet.specs.Contents.{setting_asked, offer_asked}
use Rattle.ideal.specs.Values.{SettingIs, IdealIs}
use Rattle.ideal.specs.declared.setting.Setting.{Setting}
use Rattle.ideal.specs.declared.ideal.Ideal.{Ideal}
use Rattle.end.specs.Modes.{InOpenOrKeyed}
use Rattle.end.specs.Values.{EndIs, Empty}
use Rattle.end.specs.declared.end.End.{End}

-- the end e does the call c as the rules say: it answers ans, writes w, and is then e'
abbrev pub Follows : {F : Type 0} → Meaning → End F → Call → Answer → List ℕ → End F → Type 0
Follows M e c ans w e' = (L : Lawful M) (s : State L) → EndIs L e s → (s' : State L) × Does L s c ans w s' × EndIs L e' s'

-- what a call wrote to the front of its buffer: as many bytes as it answers, none if it is refused
abbrev pub written_to : List ℕ → Result ℕ Refusal → List ℕ
written_to out (Ok n) = take n out
written_to out (Err e) = []

-- the bytes behind what was written stay as they were; a refusal leaves every byte
abbrev pub Kept : List ℕ → List ℕ → Result ℕ Refusal → Type 0
Kept before after (Ok n) = drop n after ≡ drop n before
Kept before after (Err e) = after ≡ before

-- a refused call leaves the end as it was
abbrev pub Unchanged : {F T : Type 0} → End F → End F → Result T Refusal → Type 0
Unchanged before after (Ok x) = Unit {0}
Unchanged before after (Err e) = after ≡ before

-- load leaves all but the mode
pub record OnlyMode {F : Type 0} (before after : End F) : Type 0 where
  pub field : after.field ≡ before.field
  pub ideal : after.ideal ≡ before.ideal
  pub distance : after.distance ≡ before.distance
  pub key : after.key ≡ before.key

-- open leaves the field and the key
pub record NotTheKey {F : Type 0} (before after : End F) : Type 0 where
  pub field : after.field ≡ before.field
  pub key : after.key ≡ before.key

-- take leaves the field, the ideal and the own distance
pub record OnlyTheKey {F : Type 0} (before after : End F) : Type 0 where
  pub field : after.field ≡ before.field
  pub ideal : after.ideal ≡ before.ideal
  pub distance : after.distance ≡ before.distance

-- the calls, each as a step of the rules. Load, take and close write nothing
abbrev pub Loads : {F : Type 0} → Meaning → End F → List ℕ → Result Unit Refusal → End F → Type 0
Loads M e x r e' = Follows M e (load x) (answer_of r) [] e'

-- open leaves these bytes of the secret
abbrev pub Opens : {F : Type 0} → Meaning → End F → List ℕ → Result Unit Refusal → List ℕ → End F → Type 0
Opens M e n r w e' = Follows M e («open» n) (answer_of r) w e'

-- the number has 1 to 32 bytes
abbrev pub OneTo32 : List ℕ → Type 0
OneTo32 n = (1 ≤ length n) × (length n ≤ 32)

abbrev pub Takes : {F : Type 0} → Meaning → End F → List ℕ → Result Unit Refusal → End F → Type 0
Takes M e x r e' = Follows M e (takes x) (answer_of r) [] e'

-- tell and key leave the end as it is
abbrev pub Tells : {F : Type 0} → Meaning → End F → List ℕ → List ℕ → Result ℕ Refusal → Type 0
Tells M e before after r = Follows M e (tell (length before)) (answer_of r) (written_to after r) e

abbrev pub Keys : {F : Type 0} → Meaning → End F → List ℕ → List ℕ → Result ℕ Refusal → Type 0
Keys M e before after r = Follows M e (key (length before)) (answer_of r) (written_to after r) e

abbrev pub Closes : {F : Type 0} → Meaning → End F → End F → Type 0
Closes M e e' = Follows M e close accepted [] e'

-- nothing is kept of an open or keyed end; any other is left as it was
pub record Cleared {F : Type 0} (before after : End F) : Type 0 where
  pub empty : InOpenOrKeyed before.mode → Empty after
  pub same : ¬ (InOpenOrKeyed before.mode) → after ≡ before

-- the questions of a setting packet and of its setting, all but that of the mode
abbrev pub setting_questions : {M : Meaning} (L : Lawful M) → List ℕ → List Question
setting_questions {M} L x = setting_asked M.size x ++ setting_asks L (poly_of L (body x second))

-- the setting that a packet is read as, or the number of the first of its questions with the answer no
abbrev pub SettingRead : Meaning → List ℕ → Result Setting Refusal → Type 0
SettingRead M x r = (L : Lawful M) → MatchResult r
    (λ t. Answers (setting_questions L x) accepted × ((A : Accepted L) × (A.D ≡ poly_of L (body x second)) × SettingIs L A t))
    (λ e. Answers (setting_questions L x) (refused (refusal_number e)))

-- the questions of an offer and of its ideal, all but those of the mode, of (1) and of the key
abbrev pub offer_questions : {M : Meaning} (L : Lawful M) → Accepted L → List ℕ → List Question
offer_questions {M} L A x = offer_asked M.size x ++ ideal_asks L A (poly_of L (body x first)) (poly_of L (body x second))

-- the reduced ideal that an offer is read as, or the number of the first of its questions with the answer no
abbrev pub OfferRead : Meaning → Setting → List ℕ → Result Ideal Refusal → Type 0
OfferRead M t x r = (L : Lawful M) (A : Accepted L) → SettingIs L A t → MatchResult r
    (λ a. Answers (offer_questions L A x) accepted × ((b : Ideals L A) × Reads L A x b × LawfulAt (K L) (setting L A) b 0 × IdealIs L A a b))
    (λ e. Answers (offer_questions L A x) (refused (refusal_number e)))
