-- Places, and the rule of addition as relations over the step, which a program's loops can be shown to follow.
use Rattle.std.specs.Prelude.{◌≡◌, ℕ, suc, ◌+◌, ◌≤◌}
use Rattle.ring.proofs.PolyRing.{PolyRing}
use Rattle.algebra.specs.Settings.{Setting}
use Rattle.algebra.specs.Ideals.{Ideal, one, LawfulAt, StandardForm}
use Rattle.algebra.specs.Steps.{StepTo}
use Rattle.algebra.specs.Products.{Product}

-- reduction: baby steps until Q has degree below m. `saved` is the sum of len Q − far over the steps, that is what their
-- lengths, none of which is positive, sum up to, with the sign changed
pub data Reduces {C R : Type 0} (K : PolyRing C R) (S : Setting K) : Ideal K.r S.D → Ideal K.r S.D → ℕ → Type 0 where
  reduced : {a : Ideal K.r S.D} → K.len a.Q ≤ S.m → Reduces K S a a 0
  reduce : {a b c : Ideal K.r S.D} {far more saved : ℕ} → S.m + 1 ≤ K.len a.Q → StepTo K S a b far → saved + far ≡ more + K.len a.Q
      → Reduces K S b c more → Reduces K S a c saved

-- the walk from a reduced ideal: while the gap is at least the length m − deg Q of the next step, take it and lessen the gap
pub data Walks {C R : Type 0} (K : PolyRing C R) (S : Setting K) : Ideal K.r S.D → ℕ → Ideal K.r S.D → ℕ → Type 0 where
  stop : {a : Ideal K.r S.D} {gap : ℕ} → gap + K.len a.Q ≤ S.m → Walks K S a gap a gap
  walk : {a b c : Ideal K.r S.D} {gap next rest far : ℕ} → S.m + 1 ≤ gap + K.len a.Q → StepTo K S a b far → next + far ≡ gap + K.len a.Q
      → Walks K S b next c rest → Walks K S a gap c rest

module _ {C R : Type 0} (K : PolyRing C R) (S : Setting K) where
  open K use {r, len}
  open S use {D}

  -- the sum of (a, f) and (b, g) is (c, h): product, reduction, and a walk over the gap f + g − ε, where the shortfall ε is
  -- − deg s plus the lengths of the steps of the reduction
  pub record Adds (a : Ideal r D) (f : ℕ) (b : Ideal r D) (g : ℕ) (c : Ideal r D) (h : ℕ) : Type 0 where
    pub s : R
    pub Qc : R
    pub Pc : R
    pub whole : Ideal r D
    pub small : Ideal r D
    pub saved : ℕ
    pub gap : ℕ
    pub is_product : Product K S a b s Qc Pc
    pub is_normal : StandardForm K S Qc Pc whole
    pub is_reduced : Reduces K S whole small saved
    pub gap_is : gap + 1 ≡ f + g + len s + saved
    pub is_walked : Walks K S small gap c h

  -- a place: an ideal and an offset
  pub record Place : Type 0 where
    pub ideal : Ideal r D
    pub off : ℕ

  abbrev pub place : Ideal r D → ℕ → Place
  place a f = record { ideal = a; off = f }

  -- the ideal is reduced and in standard form, and the offset is from 0 to m − deg Q − 1
  abbrev pub LawfulPlace : Place → Type 0
  LawfulPlace p = LawfulAt K S p.ideal p.off

  -- place 0
  abbrev pub origin : Place
  origin = place (one K S) 0

  -- the sum of two places
  abbrev pub AddsTo : Place → Place → Place → Type 0
  AddsTo p q s = Adds p.ideal p.off q.ideal q.off s.ideal s.off

-- n times a place: place 0, with the place added n times
pub data Times {C R : Type 0} (K : PolyRing C R) (S : Setting K) (p : Place K S) : ℕ → Place K S → Type 0 where
  none : Times K S p 0 (origin K S)
  more : {n : ℕ} {q s : Place K S} → Times K S p n q → AddsTo K S q p s → Times K S p (suc n) s
