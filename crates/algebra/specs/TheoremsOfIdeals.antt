-- What is proved of ideals: one record for each theorem, over any setting, and below them the theorems themselves, over every
-- setting of every lawful field.
use Rattle.std.specs.Prelude.{◌≡◌, ◌≢◌, ℕ, ◌+◌, ◌≤◌, ◌<◌}
use Rattle.field.specs.Meaning.{Meaning, Lawful}
use Rattle.ring.proofs.Ring.{Divides}
use Rattle.ring.proofs.PolyRing.{PolyRing}
use Rattle.ring.proofs.Order.{O, mk, order, conj, norm}
use Rattle.ring.proofs.Euclid.{Monic}
use Rattle.ring.proofs.Sets.{Sub, Prod}
use Rattle.algebra.specs.Codes.{K}
use Rattle.algebra.specs.Settings.{Setting}
use Rattle.algebra.specs.Ideals.{In, Ideal, I, Standard, LawfulAt, StandardForm}
use Rattle.algebra.specs.Degrees.{Degree}
use Rattle.algebra.specs.Equivalence.{site, at, ◌~◌, ◌⊙◌}
use Rattle.algebra.specs.Steps.{StepTo}
use Rattle.algebra.specs.Products.{Product}

module _ {C R : Type 0} (K : PolyRing C R) (S : Setting K) where
  infixl 60 ◌⊕◌
  infixl 70 ◌⊗◌ ◌·◌
  infix 80 ⊖◌
  open K use {r, len}
  open S use {D, d, m}
  open r use {𝟘, 𝟙, ◌⊕◌, ⊖◌, ◌⊗◌}
  open order r D use {𝟘 as 𝟎, 𝟙 as 𝟏, ◌⊗◌ as ◌·◌}

  -- The ring of u + v·y. Its ring laws are those of `order`; y·y is D; a product is 0 only where a factor is; the norm, an
  -- element times its conjugate, is a polynomial, multiplicative, and 0 for 0 alone.
  pub record QuadraticRing : Type 0 where
    pub root : mk 𝟘 𝟙 · mk 𝟘 𝟙 ≡ mk D 𝟘
    pub no_zero_divisors : (α β : O R) → α ≢ 𝟎 → β ≢ 𝟎 → α · β ≢ 𝟎
    pub norm_is : (α : O R) → α · conj r D α ≡ mk (norm r D α) 𝟘
    pub norm_product : (α β : O R) → norm r D (α · β) ≡ norm r D α ⊗ norm r D β
    pub norm_alive : (α : O R) → α ≢ 𝟎 → norm r D α ≢ 𝟘

  -- Ideals as sets. The standard form of (Q, P) has the same elements; there is one, and ideals in standard form with the same
  -- elements are equal.
  pub record IdealsAsSets : Type 0 where
    pub standard : (Q P : R) → Q ≢ 𝟘 → Divides r Q (D ⊕ ⊖ (P ⊗ P)) → (b : Ideal r D) × StandardForm K S Q P b
    pub same_set : (Q P : R) (b : Ideal r D) → StandardForm K S Q P b → (ζ : O R) → (In r Q P ζ → I r b ζ) × (I r b ζ → In r Q P ζ)
    pub set_decides : (a b : Ideal r D) → Standard K S a → Standard K S b
        → ((ζ : O R) → I r a ζ → I r b ζ) → ((ζ : O R) → I r b ζ → I r a ζ) → a ≡ b

  -- The baby step, of every ideal, reduced or not.
  pub record BabySteps : Type 0 where
    -- there is one step from a, to an ideal in standard form
    pub exists : (a : Ideal r D) → (b : Ideal r D) × (far : ℕ) × StepTo K S a b far
    pub one_step : (a b c : Ideal r D) (far far' : ℕ) → StepTo K S a b far → StepTo K S a c far' → (b ≡ c) × (far ≡ far')
    -- (P₁ + y)·I(a) = Q·I(b), as sets
    pub into : (a b : Ideal r D) (far : ℕ) (σ : StepTo K S a b far) → Sub (order r D) (mk σ.P₁ 𝟙) (I r a) (mk a.Q 𝟘) (I r b)
    pub onto : (a b : Ideal r D) (far : ℕ) (σ : StepTo K S a b far) → Sub (order r D) (mk a.Q 𝟘) (I r b) (mk σ.P₁ 𝟙) (I r a)
    -- so a at f is b at f less the step's length, far − len Q
    pub moves : (a b : Ideal r D) (far f g : ℕ) → StepTo K S a b far → f + len a.Q ≡ g + far → ◌~◌ K S (at K S a f) (at K S b g)
    -- from a reduced ideal the length is m − deg Q, which is at least 1, and the next ideal is reduced
    pub reduced_far : (a b : Ideal r D) (far : ℕ) → StepTo K S a b far → len a.Q ≤ m → far ≡ m + 1
    pub reduced_next : (a b : Ideal r D) (far : ℕ) → StepTo K S a b far → len a.Q ≤ m → len b.Q ≤ m
    -- from one that is not, the length is 0 or negative
    pub large_far : (a b : Ideal r D) (far : ℕ) → StepTo K S a b far → m < len a.Q → far ≤ len a.Q
    -- and deg Q falls by 2 at least where it is above m; from m it falls below
    pub large_falls : (a b : Ideal r D) (far : ℕ) → StepTo K S a b far → m + 1 < len a.Q → len b.Q + 2 ≤ len a.Q
    pub edge_falls : (a b : Ideal r D) (far : ℕ) → StepTo K S a b far → len a.Q ≡ m + 1 → len b.Q ≤ m

  -- s divides Qa, Qb and Pa + Pb and is made of them with the multipliers X, Y, Z
  pub record Multipliers (a b : Ideal r D) (s X Y Z : R) : Type 0 where
    pub is : s ≡ X ⊗ a.Q ⊕ Z ⊗ b.Q ⊕ Y ⊗ (a.P ⊕ b.P)
    pub div_a : Divides r s a.Q
    pub div_b : Divides r s b.Q
    pub div_p : Divides r s (a.P ⊕ b.P)

  -- The product of two ideals.
  pub record ProductsOfIdeals : Type 0 where
    -- there are multipliers; from any of them all divisions are exact
    pub multipliers : (a b : Ideal r D) → (s : R) × (X : R) × (Y : R) × (Z : R) × Multipliers a b s X Y Z
    pub exists : (a b : Ideal r D) (s X Y Z : R) → Multipliers a b s X Y Z
        → (Qc : R) × (Pc : R) × (π : Product K S a b s Qc Pc) × (π.X ≡ X) × (π.Y ≡ Y) × (π.Z ≡ Z)
    pub alive : (a b : Ideal r D) (s Qc Pc : R) → Product K S a b s Qc Pc → Qc ≢ 𝟘
    pub exact : (a b : Ideal r D) (s Qc Pc : R) → Product K S a b s Qc Pc → Divides r Qc (D ⊕ ⊖ (Pc ⊗ Pc))
    -- I(a)·I(b) = s·I(Qc, Pc), as sets
    pub into : (a b : Ideal r D) (s Qc Pc : R) → Product K S a b s Qc Pc
        → Sub (order r D) 𝟏 (Prod (order r D) (I r a) (I r b)) (mk s 𝟘) (In r Qc Pc)
    pub onto : (a b : Ideal r D) (s Qc Pc : R) → Product K S a b s Qc Pc
        → Sub (order r D) (mk s 𝟘) (In r Qc Pc) 𝟏 (Prod (order r D) (I r a) (I r b))
    -- so a at f times b at g is c at f + g + deg s
    pub moves : (a b : Ideal r D) (s Qc Pc : R) (c : Ideal r D) (f g h : ℕ) → Product K S a b s Qc Pc → StandardForm K S Qc Pc c
        → f + g + len s ≡ h + 1 → ◌~◌ K S (◌⊙◌ K S (at K S a f) (at K S b g)) (at K S c h)
    -- degrees
    pub length : (a b : Ideal r D) (s Qc Pc : R) → Product K S a b s Qc Pc → len a.Q + len b.Q + 1 ≡ len s + len s + len Qc
    -- whatever the multipliers, the degree of s and the standard form are the same, and so is s where it is monic
    pub one_degree : (a b : Ideal r D) (s Qc Pc t Qe Pe : R) → Product K S a b s Qc Pc → Product K S a b t Qe Pe → len s ≡ len t
    pub one_divisor : (a b : Ideal r D) (s Qc Pc t Qe Pe : R) → Product K S a b s Qc Pc → Product K S a b t Qe Pe → Monic K s → Monic K t → s ≡ t
    pub one_ideal : (a b : Ideal r D) (s Qc Pc t Qe Pe : R) → Product K S a b s Qc Pc → Product K S a b t Qe Pe
        → (c e : Ideal r D) → StandardForm K S Qc Pc c → StandardForm K S Qe Pe e → c ≡ e

  -- Equivalence is one, is kept by products, and lawful places that are equivalent are equal. Offsets are differences, f − f'.
  pub record EquivalenceLaws : Type 0 where
    pub reflexive : (a : Ideal r D) (f f' : ℕ) → ◌~◌ K S (site K S a f f') (site K S a f f')
    pub symmetric : (a b : Ideal r D) (f f' g g' : ℕ) → ◌~◌ K S (site K S a f f') (site K S b g g') → ◌~◌ K S (site K S b g g') (site K S a f f')
    pub transitive : (a b c : Ideal r D) (f f' g g' h h' : ℕ) → ◌~◌ K S (site K S a f f') (site K S b g g')
        → ◌~◌ K S (site K S b g g') (site K S c h h') → ◌~◌ K S (site K S a f f') (site K S c h h')
    pub products : (a b c e : Ideal r D) (f f' g g' h h' k k' : ℕ)
        → ◌~◌ K S (site K S a f f') (site K S b g g') → ◌~◌ K S (site K S c h h') (site K S e k k')
        → ◌~◌ K S (◌⊙◌ K S (site K S a f f') (site K S c h h')) (◌⊙◌ K S (site K S b g g') (site K S e k k'))
    pub unique : (a b : Ideal r D) (f g : ℕ) → LawfulAt K S a f → LawfulAt K S b g → ◌~◌ K S (at K S a f) (at K S b g) → (a ≡ b) × (f ≡ g)

-- The theorems.
abbrev pub QuadraticRingHasNorms : Type 0
QuadraticRingHasNorms = (M : Meaning) (L : Lawful M) (S : Setting (K L)) → QuadraticRing (K L) S

abbrev pub DegreesAdd : Type 0
DegreesAdd = (M : Meaning) (L : Lawful M) (S : Setting (K L)) → Degree (K L) S

abbrev pub SetsDecideIdeals : Type 0
SetsDecideIdeals = (M : Meaning) (L : Lawful M) (S : Setting (K L)) → IdealsAsSets (K L) S

abbrev pub StepsMoveIdeals : Type 0
StepsMoveIdeals = (M : Meaning) (L : Lawful M) (S : Setting (K L)) → BabySteps (K L) S

abbrev pub ProductsAreOne : Type 0
ProductsAreOne = (M : Meaning) (L : Lawful M) (S : Setting (K L)) → ProductsOfIdeals (K L) S

abbrev pub EquivalentPlacesAreEqual : Type 0
EquivalentPlacesAreEqual = (M : Meaning) (L : Lawful M) (S : Setting (K L)) → EquivalenceLaws (K L) S
