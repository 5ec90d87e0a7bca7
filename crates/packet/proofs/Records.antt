-- Records of polynomials and the codes of bodies.
use Rattle.std.proofs.Common.{◌≡◌, ℕ, ◌-◌, ◌*◌, ◌<◌, ◌≤◌, min, List, [], map, reverse, length, get_or, take, Some, None, Option, sym, ap, ◌∙◌, subst, ⊎_elim, arith, length-take}
use mathlib.Core.List.{reverse-reverse}
use mathlib.Mathlib.Data.List.Basic.{map-reverse_aux}
use lib.ListN.{length-reverse, length-map, get_or-map}
use Rattle.std.proofs.lemmas.List.{ext_get_or, length-take-le, get_or-take, get_or_past, get_or-reverse}
use Rattle.std.proofs.lemmas.Bool.{cases_lt}
use Rattle.field.specs.Meaning.{Meaning, Lawful}
use Rattle.ring.proofs.Poly.{poly}
use Rattle.algebra.specs.Codes.{Code, code, num_code, codes, zero_low, ring_c, R}
use Rattle.poly.specs.Values.{at, size, Is}
use Rattle.poly.specs.declared.poly.Poly.{Poly}
use Rattle.poly.proofs.Bridge.{size_le, listed, moved, at_is, len_is, num_zero}
use Rattle.rules.specs.Questions.{Hold}
use Rattle.rules.specs.Packets.{Bytes, words, body_asks, spell}
use Rattle.rules.specs.Settings.{poly_of, body_of}
use Rattle.rules.proofs.Canonical.{spell_words}
use Rattle.rules.proofs.Written.{spell_length}
use Rattle.rules.proofs.Single.{body_single}
use Rattle.rules.proofs.Spelled.{body_length}
use Rattle.packet.specs.Polynomials.{codes_down, Stored, Held, Longer, Reading}
use Rattle.packet.proofs.Words.{words_length, all_at, leads_at}

pub map_reverse : {A B : Type 0} (f : A → B) (l : List A) → map f (reverse l) ≡ reverse (map f l)
map_reverse f l = map-reverse_aux f l []

-- a record is a list of as many coefficients as it is long
pub taken : (p : Poly) (l : List ℕ) → size p ≡ length l → ((k : ℕ) → k < length l → at p k ≡ get_or l k 0) → take (size p) p.raw.coeffs ≡ l
taken p l n e =
    let full : length (take (size p) p.raw.coeffs) ≡ length l = length-take (size p) p.raw.coeffs ∙ (let a = p.short in let b = p.long in let c : min (size p) (length p.raw.coeffs) ≡ length l = omega arith in c) in
    ext_get_or 0 (take (size p) p.raw.coeffs) l full (λ k h. get_or-take (size p) p.raw.coeffs k 0 (omega arith) ∙ e k (omega arith))

pub codes_length : (p : Poly) → length (codes_down p) ≡ size p
codes_length p = length-reverse (take (size p) p.raw.coeffs) ∙ length-take-le (size p) p.raw.coeffs (let a = p.short in let b = p.long in omega arith)

pub body_size : (p : Poly) → length (spell (codes_down p)) ≡ 4 * size p
body_size p = spell_length (codes_down p) ∙ ap (λ (n : ℕ). 4 * n) (codes_length p)

-- the code at place i, counted from the highest degree
pub codes_at : (p : Poly) (i : ℕ) → i < size p → get_or (codes_down p) i 0 ≡ at p (size p - 1 - i)
codes_at p i h =
    let l : List ℕ = take (size p) p.raw.coeffs in
    let n : length l ≡ size p = length-take-le (size p) p.raw.coeffs (let a = p.short in let b = p.long in omega arith) in
    get_or-reverse l i 0 (omega arith) ∙ ap (λ (k : ℕ). get_or l (k - 1 - i) 0) n ∙ get_or-take (size p) p.raw.coeffs (size p - 1 - i) 0 (omega arith)

module _ (m : Meaning) (b : List ℕ) (bytes : Bytes b) (asked : Hold (body_asks m.size b)) where
  abbrev ws : List ℕ
  ws = words b

  module _ (p : Poly) (same : (k : ℕ) → at p k ≡ get_or (reverse ws) k 0) where
    size_is : size p ≡ length ws
    size_is =
        let l = length-reverse ws in
        let below : size p ≤ length ws = size_le p (length ws) (λ k h. same k ∙ get_or_past (reverse ws) k 0 (omega arith)) in
        let above : ¬ (size p < length ws) = λ h.
        leads_at ws asked.1.1.0 (omega arith)
        (ap (λ (k : ℕ). get_or ws k 0) (let z : 0 ≡ length ws - 1 - (length ws - 1) = omega arith in z)
        ∙ sym (get_or-reverse ws (length ws - 1) 0 (omega arith)) ∙ sym (same (length ws - 1)) ∙ p.past (length ws - 1) (omega arith)) in
        omega arith

    codes_are : codes_down p ≡ ws
    codes_are = ap reverse (taken p (reverse ws) (size_is ∙ sym (length-reverse ws)) (λ k h. same k)) ∙ reverse-reverse ws

    low : (L : Lawful m) (k : ℕ) → get_or (reverse ws) k 0 < m.size
    low L k = ⊎_elim
        (λ h. subst (λ (n : ℕ). n < m.size) (sym (get_or-reverse ws k 0 h)) (all_at (λ c. c < m.size) ws (length ws - 1 - k) asked.1.0 (omega arith)))
        (λ h. subst (λ (n : ℕ). n < m.size) (sym (get_or_past (reverse ws) k 0 (let l = length-reverse ws in omega arith))) (zero_low L))
        (cases_lt k (length ws))

    pub held : Held m b p
    held = record {
      codes = codes_are;
      only = sym (ap spell codes_are ∙ spell_words b asked.0 bytes);
      is = λ L. moved L (listed (reverse ws) p same m L (low L)) (ap (poly (codes L)) (map_reverse (code L) ws));
    }

  pub longer : 128 < length ws → Longer m b
  longer h = record {
    count = h;
    long = λ L. omega (arith, ap length (body_single L b bytes asked), body_length L (poly_of L b), words_length b);
  }

-- what is read off a body that was accepted
pub reading : (m : Meaning) (b : List ℕ) → Bytes b → Hold (body_asks m.size b) → (r : Option Poly) → Stored b r → Reading m b r
reading m b bytes asked None h = longer m b bytes asked h
reading m b bytes asked (Some p) h = held m b bytes asked p h.1

-- what a record is written as, by the polynomial that it stands for
pub codes_value : {m : Meaning} (L : Lawful m) (p : Poly) (v : R L) → Is L p v → spell (codes_down p) ≡ body_of L v
codes_value {m} L p v h = ap spell (ap reverse (taken p nums (sym (len_is L h) ∙ sym (length-map v.list num)) place) ∙ sym (map_reverse num v.list))
  where
    num : Code m → ℕ
    num = λ c. c.num

    nums : List ℕ
    nums = map num v.list

    place : (k : ℕ) → k < length nums → at p k ≡ get_or nums k 0
    place k l =
        sym (num_code L (at p k) (h.low k))
        ∙ ap num (at_is L h k)
        ∙ sym (get_or-map num v.list k (ring_c L).𝟘)
        ∙ ap (λ (d : ℕ). get_or nums k d) (num_zero L)
