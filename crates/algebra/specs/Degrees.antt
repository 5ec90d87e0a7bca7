-- The degree of u + v·y at one of the two infinite places, without power series. With p = u + v·d and n = u − v·d, which stand
-- for the values at the two places, it is deg p where p is at least as long as n, and deg N − deg n otherwise, N being
-- the norm. It may be negative, so it is written as a difference, top − bot.
use Rattle.std.specs.Prelude.{◌≡◌, ◌≢◌, ℕ, ◌+◌, ◌≤◌, ◌<◌}
use Rattle.std.proofs.Math.Decide.{dec_le}
use mathlib.Core.Logic.{ite}
use Rattle.ring.proofs.PolyRing.{PolyRing}
use Rattle.ring.proofs.Order.{O, mk, order, conj, norm}
use Rattle.algebra.specs.Settings.{Setting}

module _ {C R : Type 0} (K : PolyRing C R) (S : Setting K) where
  infixl 60 ◌⊕◌
  infixl 70 ◌⊗◌
  infix 80 ⊖◌
  open K use {r, len}
  open S use {D, d, m}
  open r use {𝟘, 𝟙, ◌⊕◌, ⊖◌, ◌⊗◌}

  -- u + v·d and u − v·d
  abbrev pub plus_part : O R → R
  plus_part a = a.u ⊕ a.v ⊗ d

  abbrev pub minus_part : O R → R
  minus_part a = a.u ⊕ ⊖ (a.v ⊗ d)

  unfoldable pub top : O R → ℕ
  top a = ite (dec_le (len (minus_part a)) (len (plus_part a))) (len (plus_part a)) (len (norm r D a))

  unfoldable pub bot : O R → ℕ
  bot a = ite (dec_le (len (minus_part a)) (len (plus_part a))) 1 (len (minus_part a))

  -- what the degree keeps: the ring has no zero divisors; the degree is additive, that of polynomials on polynomials; with the
  -- conjugate's it makes the degree of the norm; an element whose two degrees are small has a short y-part; the degree of P + y
  pub record Degree : Type 0 where
    pub domain : (a b : O R) → a ≢ (order r D).𝟘 → b ≢ (order r D).𝟘 → (order r D).◌⊗◌ a b ≢ (order r D).𝟘
    pub mult : (a b : O R) → a ≢ (order r D).𝟘 → b ≢ (order r D).𝟘
        → top ((order r D).◌⊗◌ a b) + (bot a + bot b) ≡ (top a + top b) + bot ((order r D).◌⊗◌ a b)
    pub plain : (p : R) → p ≢ 𝟘 → top (mk p 𝟘) + 1 ≡ len p + bot (mk p 𝟘)
    pub norms : (a : O R) → a ≢ (order r D).𝟘 → top a + top (conj r D a) + 1 ≡ len (norm r D a) + (bot a + bot (conj r D a))
    pub box : (a : O R) (n : ℕ) → a ≢ (order r D).𝟘 → a.v ≢ 𝟘
        → top a < n + bot a → top (conj r D a) < n + bot (conj r D a) → m + len a.v ≤ n
    pub step : (p : R) → p ⊕ d ≢ 𝟘 → top (mk p 𝟙) + 1 ≡ len (p ⊕ d) + bot (mk p 𝟙)
