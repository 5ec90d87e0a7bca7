-- Equivalence. A site is a set of elements of the ring of u + v·y that is closed under sums and multiples, as an ideal is, with
-- an offset, a whole number written up − down. Places are compared through the sites that they stand for.
use Rattle.std.specs.Prelude.{◌≡◌, refl, ◌≢◌, ℕ, zero, suc, ◌+◌}
use Rattle.ring.proofs.PolyRing.{PolyRing}
use Rattle.ring.proofs.Order.{O, order, in_plus, in_times}
use Rattle.ring.proofs.Sets.{Sub, Prod, summed, prod_times}
use Rattle.algebra.specs.Settings.{Setting}
use Rattle.algebra.specs.Ideals.{Ideal, I, one}
use Rattle.algebra.specs.Degrees.{top, bot}

module _ {C R : Type 0} (K : PolyRing C R) (S : Setting K) where
  infixl 70 ◌·◌
  infixl 60 ◌∔◌
  open K use {r}
  open S use {D}
  open order r D use {𝟘 as 𝟎, ◌⊕◌ as ◌∔◌, ◌⊗◌ as ◌·◌}

  pub record Site : Type 1 where
    pub set : O R → Type 0
    pub plus_in : (x y : O R) → set x → set y → set (x ∔ y)
    pub times_in : (ω x : O R) → set x → set (ω · x)
    pub up : ℕ
    pub down : ℕ

  -- an ideal with the offset f − g
  abbrev pub site : Ideal r D → ℕ → ℕ → Site
  site a f g = record { set = I r a; plus_in = in_plus r D a.Q a.P; times_in = in_times r D a.Q a.P a.exact; up = f; down = g }

  -- an ideal with the offset f
  abbrev pub at : Ideal r D → ℕ → Site
  at a f = site a f 0

  infix 50 ◌~◌
  -- some α and β other than 0 have α·I = β·J, and the offsets differ by the degrees: off(I) + deg β = off(J) + deg α
  pub record ◌~◌ (p q : Site) : Type 0 where
    pub α : O R
    pub β : O R
    pub α_alive : α ≢ 𝟎
    pub β_alive : β ≢ 𝟎
    pub to : Sub (order r D) α p.set β q.set
    pub from : Sub (order r D) β q.set α p.set
    pub off : p.up + q.down + (top K S β + bot K S α) ≡ q.up + p.down + (top K S α + bot K S β)

  infixl 70 ◌⊙◌
  -- the product: all sums of products, and the sum of the offsets
  abbrev pub ◌⊙◌ : Site → Site → Site
  p ⊙ q = record {
    set = Prod (order r D) p.set q.set;
    plus_in = λ x y hx hy. summed x y hx hy refl;
    times_in = prod_times (order r D) p.set q.set q.times_in;
    up = p.up + q.up;
    down = p.down + q.down;
  }

  -- n-fold products
  abbrev pub power : ℕ → Site → Site
  power zero p = at (one K S) 0
  power (suc n) p = p ⊙ power n p
