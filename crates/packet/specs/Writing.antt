-- What is written into a buffer.
use Rattle.std.specs.Prelude.{◌≡◌, ℕ, ◌+◌, ◌≤◌, List, [], ◌∷◌, ◌++◌, length, take, drop, IfOk, IfErr, Result}
use Rattle.field.specs.declared.refusal.Refusal.{Refusal}
use Rattle.field.specs.Meaning.{Meaning, Lawful}
use Rattle.algebra.specs.Codes.{R}
use Rattle.rules.specs.Questions.{◌if_not◌, Answers, answer_of, Hold}
use Rattle.rules.specs.Packets.{number, two, four, body, first, second, Holds, packet, body_asks, spell}
use Rattle.rules.specs.Settings.{body_of, poly_of, setting_packet}
use Rattle.poly.specs.Values.{Is}
use Rattle.poly.specs.declared.poly.Poly.{Poly}
use Rattle.packet.specs.Polynomials.{codes_down}

-- the buffer z with the bytes x written from the place `at` on
abbrev pub over : List ℕ → ℕ → List ℕ → List ℕ
over z at x = take at z ++ (x ++ drop (at + length x) z)

-- the table of contents of two bodies of these kinds and lengths
abbrev pub table : ℕ → ℕ → ℕ → ℕ → List ℕ
table k l b c = (2 ∷ []) ++ (k ∷ two 11) ++ two b ++ (l ∷ two (11 + b)) ++ two c

-- the bytes x are written to the buffer's front: the answer is their length, or 35 where the buffer is shorter; bytes behind
-- them stay as they were, and a refusal changes no byte
pub record Written (x before after : List ℕ) (r : Result ℕ Refusal) : Type 0 where
  pub answers : Answers ((length x ≤ length before if_not 35) ∷ []) (answer_of r)
  pub wrote : IfOk r (λ n. (n ≡ length x) × (take n after ≡ x) × (drop n after ≡ drop n before))
  pub kept : IfErr r (λ e. after ≡ before)

-- over a lawful field, the setting packet of the polynomial that the record d stands for is written
abbrev pub WritesSetting : Meaning → Poly → List ℕ → List ℕ → Result ℕ Refusal → Type 0
WritesSetting m d before after r = (L : Lawful m) (x : R L) → Is L d x → Written (setting_packet L x) before after r

-- over a lawful field, the offer of the polynomials that the records q and p stand for is written
abbrev pub WritesOffer : Poly → Poly → List ℕ → List ℕ → Result ℕ Refusal → Type 0
WritesOffer q p before after r = (m : Meaning) (L : Lawful m) (x y : R L) → Is L q x → Is L p y
    → Written (packet 3 4 (body_of L x) (body_of L y)) before after r

-- the body b passes its questions, and is read as the polynomial v
pub record ReadAs {m : Meaning} (L : Lawful m) (b : List ℕ) (v : R L) : Type 0 where
  pub asked : Hold (body_asks m.size b)
  pub is : poly_of L b ≡ v

-- the bytes x are accepted as a setting packet, and read as the field's size and the polynomial of d
pub record SettingBack (m : Meaning) (d : Poly) (x : List ℕ) : Type 0 where
  pub holds : Holds 1 2 x (four m.size) (spell (codes_down d))
  pub size : (length (body x first) ≡ 4) × (number (body x first) ≡ m.size)
  pub value : (L : Lawful m) (v : R L) → Is L d v → ReadAs L (body x second) v

-- the bytes x are accepted as an offer, and read as the polynomials of q and p
pub record OfferBack (q p : Poly) (x : List ℕ) : Type 0 where
  pub holds : Holds 3 4 x (spell (codes_down q)) (spell (codes_down p))
  pub one : (m : Meaning) (L : Lawful m) (v : R L) → Is L q v → ReadAs L (body x first) v
  pub other : (m : Meaning) (L : Lawful m) (v : R L) → Is L p v → ReadAs L (body x second) v
