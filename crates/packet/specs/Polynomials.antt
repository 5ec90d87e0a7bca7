-- Polynomials as bodies of packets, and the records that hold them.
use Rattle.std.specs.Prelude.{◌≡◌, ℕ, ◌<◌, ◌≤◌, List, reverse, length, take, Some, None, Option, slice_index}
use Rattle.field.specs.Meaning.{Meaning, Lawful}
use Rattle.algebra.specs.Codes.{K}
use Rattle.rules.specs.Packets.{words, spell}
use Rattle.rules.specs.Settings.{poly_of}
use Rattle.poly.specs.Values.{at, size, Is}
use Rattle.poly.specs.declared.poly.Poly.{Poly}

-- the coefficients of a record, from the highest degree down
abbrev pub codes_down : Poly → List ℕ
codes_down p = reverse (take (size p) p.raw.coeffs)

-- the record has the body's codes at their degrees; a body without a record has more codes than one holds
abbrev pub Stored : List ℕ → Option Poly → Type 0
Stored b None = 128 < length (words b)
Stored b (Some p) = (length (words b) ≤ 128) × ((k : ℕ) → at p k ≡ slice_index (reverse (words b)) k)

-- the body b is the polynomial of the record p: p has its codes, b is what p is written as, and over a lawful field p stands
-- for what the rules read
pub record Held (m : Meaning) (b : List ℕ) (p : Poly) : Type 0 where
  pub codes : codes_down p ≡ words b
  pub only : b ≡ spell (codes_down p)
  pub is : (L : Lawful m) → Is L p (poly_of L b)

-- the body b has more codes than a record holds, and over a lawful field the rules read a polynomial of as many
pub record Longer (m : Meaning) (b : List ℕ) : Type 0 where
  pub count : 128 < length (words b)
  pub long : (L : Lawful m) → 128 < (K L).len (poly_of L b)

-- what is read off a body that passes its questions
abbrev pub Reading : Meaning → List ℕ → Option Poly → Type 0
Reading m b (Some p) = Held m b p
Reading m b None = Longer m b
