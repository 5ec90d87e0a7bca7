-- The line of reduced ideals, and place t.
use Rattle.std.specs.Prelude.{◌≡◌, ℕ, suc, ◌+◌, ◌≤◌}
use Rattle.ring.proofs.PolyRing.{PolyRing}
use Rattle.algebra.specs.Settings.{Setting}
use Rattle.algebra.specs.Ideals.{Ideal, one}
use Rattle.algebra.specs.Steps.{StepTo}
use Rattle.algebra.specs.Places.{Place}

-- the line starts with (1) at distance 0; each step leads to the next ideal, at a distance greater by its length
pub data Line {C R : Type 0} (K : PolyRing C R) (S : Setting K) : ℕ → Ideal K.r S.D → ℕ → Type 0 where
  start : Line K S 0 (one K S) 0
  next : {i δ δ' far : ℕ} {a b : Ideal K.r S.D} → Line K S i a δ → StepTo K S a b far → δ' + K.len a.Q ≡ δ + far → Line K S (suc i) b δ'

module _ {C R : Type 0} (K : PolyRing C R) (S : Setting K) where
  open K use {r, len}
  open S use {D, m}

  -- the ideal closest to the left of t, the last one whose distance is at most t: number `index` of the line, at `distance`
  pub record Closest (t : ℕ) (a : Ideal r D) (distance : ℕ) : Type 0 where
    pub index : ℕ
    pub line : Line K S index a distance
    pub left : distance ≤ t
    pub last : (j ε : ℕ) (b : Ideal r D) → Line K S j b ε → ε ≤ t → j ≤ index

  -- place t: the ideal closest to the left of t, with t less its distance as offset, which is below the length m − deg Q of
  -- the step to the next ideal
  pub record PlaceAt (t : ℕ) (p : Place K S) : Type 0 where
    pub index : ℕ
    pub distance : ℕ
    pub line : Line K S index p.ideal distance
    pub split : t ≡ distance + p.off
    pub fits : p.off + len p.ideal.Q ≤ m
