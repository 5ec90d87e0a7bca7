-- Settings over a lawful meaning, the ideal closest to the left, and polynomials as bytes.
use Rattle.std.specs.Prelude.{◌≡◌, ℕ, ◌+◌, ◌≤◌, List, [], ◌∷◌, map, reverse}
use Rattle.field.specs.Meaning.{Meaning, Lawful}
use Rattle.algebra.specs.Codes.{Code, code, codes, R, K}
use Rattle.ring.proofs.Poly.{poly}
use Rattle.ring.proofs.Euclid.{no_square}
use Rattle.rules.specs.Questions.{Question, ◌if_not◌}
use Rattle.rules.specs.Packets.{four, words, spell, packet}
use Rattle.algebra.specs.Settings.{Setting}
use Rattle.ring.proofs.Ring.{Divides}
use Rattle.algebra.specs.Ideals.{Ideal, one}
use Rattle.algebra.specs.Places.{place, Times}
use Rattle.algebra.specs.Lines.{Closest as ClosestTo}

module _ {M : Meaning} (L : Lawful M) where
  infixl 60 ◌⊕◌
  infixl 70 ◌⊗◌
  infix 80 ⊖◌
  open K L use {r, len, coef, der}
  open (K L).r use {𝟘, 𝟙, ◌⊕◌, ⊖◌, ◌⊗◌}

  abbrev pub unit : Code M
  unit = (K L).k.𝟙

  -- the leading coefficient is 1
  abbrev pub Monic : R L → Type 0
  Monic p = (n : ℕ) × (len p ≡ n + 1) × (coef p n ≡ unit)

  -- no common factor of degree 1 or more
  abbrev pub Coprime : R L → R L → Type 0
  Coprime p q = (g : R L) → Divides r g p → Divides r g q → len g ≡ 1

  -- the degree is even and from 4 to 50
  abbrev pub EvenDegree : R L → Type 0
  EvenDegree D = (n : ℕ) × (len D ≡ n + n + 1) × (2 ≤ n) × (n ≤ 25)

  -- the questions of a setting polynomial
  abbrev pub setting_asks : R L → List Question
  setting_asks D =
      (EvenDegree D if_not 21)
      ∷ (Monic D if_not 22)
      ∷ (Coprime D (der D) if_not 23)
      ∷ []

  -- a setting: D is monic of degree 2m, m is 2 to 25, D and its derivative have no common factor;
  -- d is monic of degree m, and D − d·d has degree below m
  pub record Accepted : Type 0 where
    pub D : R L
    pub m : ℕ
    pub d : R L
    pub low : 2 ≤ m
    pub high : m ≤ 25
    pub D_len : len D ≡ m + m + 1
    pub D_monic : Monic D
    pub plain : Coprime D (der D)
    pub d_len : len d ≡ m + 1
    pub d_monic : Monic d
    pub near : len (D ⊕ ⊖ (d ⊗ d)) ≤ m

  abbrev pub setting : Accepted → Setting (K L)
  setting A = record {
    D = A.D;
    d = A.d;
    m = A.m;
    m_big = A.low;
    d_len = A.d_len;
    D_len = A.D_len;
    rest = A.near;
    squarefree = no_square (K L) A.D A.plain;
  }

  -- a polynomial's body holds its codes from the highest degree down
  abbrev pub body_of : R L → List ℕ
  body_of p = spell (map (λ (c : Code M). c.num) (reverse p.list))

  -- and is read so
  abbrev pub poly_of : List ℕ → R L
  poly_of b = poly (codes L) (reverse (map (code L) (words b)))

  -- the setting packet of D: the field size as 32 bits, and D
  abbrev pub setting_packet : R L → List ℕ
  setting_packet D = packet 1 2 (four M.size) (body_of D)

module _ {M : Meaning} (L : Lawful M) (A : Accepted L) where
  open K L use {r}

  abbrev pub Ideals : Type 0
  Ideals = Ideal r A.D

  -- (1)
  abbrev pub unit_ideal : Ideals
  unit_ideal = one (K L) (setting L A)

  -- a is the ideal closest to the left of t, and δ its distance
  abbrev pub Closest : ℕ → Ideals → ℕ → Type 0
  Closest t a δ = ClosestTo (K L) (setting L A) t a δ

  -- k is the ideal of the multiple of a, at offset 0, by n
  abbrev pub MultipleOf : ℕ → Ideals → Ideals → Type 0
  MultipleOf n a k = (f : ℕ) × Times (K L) (setting L A) (place (K L) (setting L A) a 0) n (place (K L) (setting L A) k f)

  -- the offer of an ideal
  abbrev pub offer : Ideals → List ℕ
  offer a = packet 3 4 (body_of L a.Q) (body_of L a.P)
