-- What is proved of places: one record for each theorem, over any setting, and below them the theorems themselves, over every
-- setting of every lawful field. None of them asks a place to be on the line unless it names place t.
use Rattle.std.specs.Prelude.{◌≡◌, ℕ, suc, ◌+◌, ◌*◌, ◌≤◌}
use Rattle.field.specs.Meaning.{Meaning, Lawful}
use Rattle.ring.proofs.PolyRing.{PolyRing}
use Rattle.algebra.specs.Codes.{K}
use Rattle.algebra.specs.Settings.{Setting}
use Rattle.algebra.specs.Ideals.{Ideal, Standard}
use Rattle.algebra.specs.Places.{Reduces, Walks, Adds, Place, place, LawfulPlace, origin, AddsTo, Times}
use Rattle.algebra.specs.Lines.{Line, Closest, PlaceAt}

module _ {C R : Type 0} (K : PolyRing C R) (S : Setting K) where
  open K use {r, len}
  open S use {D, m}

  -- The sum of two places.
  pub record SumsOfPlaces : Type 0 where
    -- for any two places the rule ends, in a lawful place, which is one whatever multipliers were used
    pub exists : (p q : Place K S) → (s : Place K S) × AddsTo K S p q s
    pub lawful : (p q s : Place K S) → AddsTo K S p q s → LawfulPlace K S s
    pub one_sum : (p q s t : Place K S) → AddsTo K S p q s → AddsTo K S p q t → s ≡ t
    -- so are the reduced ideal, what its steps saved, the gap, and the degree of s: reduction and walk leave no choice
    pub one_reduction : (a b c : Ideal r D) (n k : ℕ) → Reduces K S a b n → Reduces K S a c k → (b ≡ c) × (n ≡ k)
    pub one_walk : (a b c : Ideal r D) (gap f g : ℕ) → Walks K S a gap b f → Walks K S a gap c g → (b ≡ c) × (f ≡ g)
    pub one_way : (p q s t : Place K S) (A : AddsTo K S p q s) (B : AddsTo K S p q t)
        → (A.small ≡ B.small) × (A.saved ≡ B.saved) × (A.gap ≡ B.gap) × (len A.s ≡ len B.s)
    -- the shortfall is 0 or negative, since no step of a reduction has a positive length: the gap is no less than f + g
    pub shortfall : (p q s : Place K S) (A : AddsTo K S p q s) → p.off + q.off ≤ A.gap
    -- bounds that a program may rest on: what is saved, the gap
    pub saved : (a b : Ideal r D) (n : ℕ) → Reduces K S a b n → n + len b.Q ≤ len a.Q
    pub gap : (p q s : Place K S) (A : AddsTo K S p q s)
        → A.gap + len A.small.Q + 1 ≤ p.off + len p.ideal.Q + (q.off + len q.ideal.Q)
    -- commutative, associative, and place 0 is neutral
    pub comm : (p q s : Place K S) → AddsTo K S p q s → AddsTo K S q p s
    pub assoc : (p q s x y z : Place K S) → AddsTo K S p q x → AddsTo K S x s y → AddsTo K S q s z → AddsTo K S p z y
    pub zero_left : (p : Place K S) → LawfulPlace K S p → AddsTo K S (origin K S) p p
    pub zero_right : (p : Place K S) → LawfulPlace K S p → AddsTo K S p (origin K S) p

  -- The line: number i is one ideal at one distance; it is reduced and in standard form; each distance is greater than the one
  -- before it by m − deg Q, which is at least 1.
  pub record LineLaws : Type 0 where
    pub exists : (i : ℕ) → (a : Ideal r D) × (δ : ℕ) × Line K S i a δ
    pub one_ideal : (i δ ε : ℕ) (a b : Ideal r D) → Line K S i a δ → Line K S i b ε → (a ≡ b) × (δ ≡ ε)
    pub reduced : (i δ : ℕ) (a : Ideal r D) → Line K S i a δ → len a.Q ≤ m
    pub standard : (i δ : ℕ) (a : Ideal r D) → Line K S i a δ → Standard K S a
    pub rises : (i δ ε : ℕ) (a b : Ideal r D) → Line K S i a δ → Line K S (suc i) b ε → ε + len a.Q ≡ δ + (m + 1)

  -- Place t, for every t: there is one, it is lawful, and its ideal is the one closest to the left of t.
  pub record PlacesOfLine : Type 0 where
    pub exists : (t : ℕ) → (p : Place K S) × PlaceAt K S t p
    pub one_place : (t : ℕ) (p q : Place K S) → PlaceAt K S t p → PlaceAt K S t q → p ≡ q
    pub lawful : (t : ℕ) (p : Place K S) → PlaceAt K S t p → LawfulPlace K S p
    pub closest_exists : (t : ℕ) → (a : Ideal r D) × (δ : ℕ) × Closest K S t a δ
    pub closest_one : (t δ ε : ℕ) (a b : Ideal r D) → Closest K S t a δ → Closest K S t b ε → (a ≡ b) × (δ ≡ ε)
    pub is_closest : (t : ℕ) (p : Place K S) (π : PlaceAt K S t p) → Closest K S t p.ideal π.distance
    pub from_closest : (t δ f : ℕ) (a : Ideal r D) → Closest K S t a δ → t ≡ δ + f → PlaceAt K S t (place K S a f)
    pub origin_first : PlaceAt K S 0 (origin K S)

  -- Place s plus place t is place s + t, and nothing else.
  pub record SumsOnLine : Type 0 where
    pub adds : (s t : ℕ) (p q x : Place K S) → PlaceAt K S s p → PlaceAt K S t q → AddsTo K S p q x → PlaceAt K S (s + t) x
    pub reaches : (s t : ℕ) (p q x : Place K S) → PlaceAt K S s p → PlaceAt K S t q → PlaceAt K S (s + t) x → AddsTo K S p q x

  -- Doubling with a digit: the rule of addition on place t and itself, with e more in the gap, ends in place t + t + e.
  pub record DoublesOnLine : Type 0 where
    pub doubles : (t e : ℕ) (p x : Place K S) → PlaceAt K S t p
        → Adds K S p.ideal (p.off + e) p.ideal p.off x.ideal x.off → PlaceAt K S (t + t + e) x
    pub exists : (e : ℕ) (p : Place K S) → (x : Place K S) × Adds K S p.ideal (p.off + e) p.ideal p.off x.ideal x.off

  -- n times a place, for every place: there is one, and it is lawful; n·p + k·p = (n + k)·p, n·p + n·q = n·(p + q), and
  -- n·(k·p) = (n·k)·p.
  pub record MultiplesOfPlaces : Type 0 where
    pub exists : (n : ℕ) (p : Place K S) → (q : Place K S) × Times K S p n q
    pub one_multiple : (n : ℕ) (p q s : Place K S) → Times K S p n q → Times K S p n s → q ≡ s
    pub lawful : (n : ℕ) (p q : Place K S) → Times K S p n q → LawfulPlace K S q
    pub sum : (n k : ℕ) (p x y z : Place K S) → Times K S p n x → Times K S p k y → AddsTo K S x y z → Times K S p (n + k) z
    pub distributes : (n : ℕ) (p q s x y z : Place K S) → AddsTo K S p q s → Times K S p n x → Times K S q n y → AddsTo K S x y z → Times K S s n z
    pub nested : (n k : ℕ) (p x y : Place K S) → Times K S p k x → Times K S x n y → Times K S p (n * k) y

  -- n times place t is place n·t; so with own distances δ and δ' both ends' multiples are place δ·δ'.
  pub record MultiplesOnLine : Type 0 where
    pub multiple : (n t : ℕ) (p q : Place K S) → PlaceAt K S t p → Times K S p n q → PlaceAt K S (n * t) q
    pub meet : (δ δ' : ℕ) (a b x y : Place K S) → PlaceAt K S δ a → PlaceAt K S δ' b → Times K S b δ x → Times K S a δ' y
        → (x ≡ y) × PlaceAt K S (δ * δ') x

-- The theorems.
abbrev pub PlacesAdd : Type 0
PlacesAdd = (M : Meaning) (L : Lawful M) (S : Setting (K L)) → SumsOfPlaces (K L) S

abbrev pub LineIsOne : Type 0
LineIsOne = (M : Meaning) (L : Lawful M) (S : Setting (K L)) → LineLaws (K L) S

abbrev pub EveryPlaceIsOne : Type 0
EveryPlaceIsOne = (M : Meaning) (L : Lawful M) (S : Setting (K L)) → PlacesOfLine (K L) S

abbrev pub PlacesAddTheirNumbers : Type 0
PlacesAddTheirNumbers = (M : Meaning) (L : Lawful M) (S : Setting (K L)) → SumsOnLine (K L) S

abbrev pub PlacesDouble : Type 0
PlacesDouble = (M : Meaning) (L : Lawful M) (S : Setting (K L)) → DoublesOnLine (K L) S

abbrev pub PlacesHaveMultiples : Type 0
PlacesHaveMultiples = (M : Meaning) (L : Lawful M) (S : Setting (K L)) → MultiplesOfPlaces (K L) S

abbrev pub MultiplesMeet : Type 0
MultiplesMeet = (M : Meaning) (L : Lawful M) (S : Setting (K L)) → MultiplesOnLine (K L) S
