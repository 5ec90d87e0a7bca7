-- Sites, sets closed under sums and multiples with an offset, and their equivalence: α I = β J, with offsets that differ by the
-- degrees of α and β. It is an equivalence, and products of sites are commutative and associative up to it, with (1) neutral.
use mathlib.Core.Path.{◌≡◌, refl, sym, ap, subst}
use mathlib.Core.Logic.{◌≢◌}
use mathlib.Core.Logic.Dec
use mathlib.Core.List.{[], ◌∷◌}
use Prim.Native.Nat.{ℕ, zero, suc, ◌+◌, ◌*◌}
use native.Mathlib.Nat.{zero-mul, suc-mul}
use native.Mathlib.Omega.{arith}
use Rattle.ring.proofs.Ring.{one-⊗}
use Rattle.ring.proofs.Quote.{quote, auto}
use Rattle.ring.proofs.PolyRing.{PolyRing}
use Rattle.ring.proofs.Order.{O, mk, order}
use Rattle.ring.proofs.Lengths.{alive_one}
use Rattle.algebra.proofs.Degrees.{degree}
use Rattle.ring.proofs.Sets.{single, sub_trans, sub_trans', sub_prod, prod_comm, prod_assoc, prod_assoc⁻¹, prod_fold}
use Rattle.algebra.specs.Settings.{Setting}
use Rattle.algebra.specs.Ideals.{Ideal, I, one as one₀}
use Rattle.algebra.specs.Equivalence.{Site as Site₀, site as site₀, at as at₀, ◌~◌ as ◌~₀◌, ◌⊙◌ as ◌⊙₀◌, power as power₀}

module _ {C R : Type 0} (K : PolyRing C R) (S : Setting K) where
  infixl 70 ◌·◌
  infixl 60 ◌∔◌
  infix 50 ◌~◌
  infixl 70 ◌⊙◌
  open K use {r, len}
  open S use {D}
  open order r D use {𝟘 as 𝟎, 𝟙 as 𝟏, ◌⊕◌ as ◌∔◌, ◌⊗◌ as ◌·◌}

  abbrev Site : Type 1
  Site = Site₀ K S

  abbrev site : Ideal r D → ℕ → ℕ → Site
  site = site₀ K S

  abbrev at : Ideal r D → ℕ → Site
  at = at₀ K S

  abbrev one : Ideal r D
  one = one₀ K S

  abbrev ◌~◌ : Site → Site → Type 0
  p ~ q = ◌~₀◌ K S p q

  abbrev ◌⊙◌ : Site → Site → Site
  p ⊙ q = ◌⊙₀◌ K S p q

  abbrev power : ℕ → Site → Site
  power = power₀ K S

  pub in_one : (ζ : O R) → I r one ζ
  in_one ζ = (ζ.u, auto r (ζ.u ∷ ζ.v ∷ []) (search quote depth 20) tt)

  pub plain_alive : (p : R) → p ≢ r.𝟘 → mk p r.𝟘 ≢ 𝟎
  plain_alive p n z = n (ap (λ x. x.u) z)

  pub alive_𝟏 : 𝟏 ≢ 𝟎
  alive_𝟏 = plain_alive r.𝟙 (alive_one K)

  -- one set under two names
  pub ~-same : (p q : Site) → ((ζ : O R) → p.set ζ → q.set ζ) → ((ζ : O R) → q.set ζ → p.set ζ)
      → p.up + q.down ≡ q.up + p.down → p ~ q
  ~-same p q f g e = record {
    α = 𝟏;
    β = 𝟏;
    α_alive = alive_𝟏;
    β_alive = alive_𝟏;
    to = λ ζ h. (ζ, f ζ h, refl);
    from = λ ζ h. (ζ, g ζ h, refl);
    off = omega arith;
  }

  pub ~-refl : (p : Site) → p ~ p
  ~-refl p = ~-same p p (λ ζ h. h) (λ ζ h. h) refl

  abbrev pub ~-sym : {p q : Site} → p ~ q → q ~ p
  ~-sym E = record { α = E.β; β = E.α; α_alive = E.β_alive; β_alive = E.α_alive; to = E.from; from = E.to; off = sym E.off }

  pub ~-trans : {p q s : Site} → p ~ q → q ~ s → p ~ s
  ~-trans {p} {q} {s} E F = record {
    α = E.α · F.α;
    β = E.β · F.β;
    α_alive = (degree K S).domain E.α F.α E.α_alive F.α_alive;
    β_alive = (degree K S).domain E.β F.β E.β_alive F.β_alive;
    to = sub_trans (order r D) E.α E.β F.α F.β p.set q.set s.set E.to F.to;
    from = sub_trans' (order r D) E.α E.β F.α F.β p.set q.set s.set E.from F.from;
    off = omega (arith, E.off, F.off, (degree K S).mult E.α F.α E.α_alive F.α_alive, (degree K S).mult E.β F.β E.β_alive F.β_alive);
  }

  pub ⊙-cong : {p p' q q' : Site} → p ~ p' → q ~ q' → p ⊙ q ~ p' ⊙ q'
  ⊙-cong {p} {p'} {q} {q'} E F = record {
    α = E.α · F.α;
    β = E.β · F.β;
    α_alive = (degree K S).domain E.α F.α E.α_alive F.α_alive;
    β_alive = (degree K S).domain E.β F.β E.β_alive F.β_alive;
    to = sub_prod (order r D) E.α E.β F.α F.β p.set p'.set q.set q'.set E.to F.to;
    from = sub_prod (order r D) E.β E.α F.β F.α p'.set p.set q'.set q.set E.from F.from;
    off = omega (arith, E.off, F.off, (degree K S).mult E.α F.α E.α_alive F.α_alive, (degree K S).mult E.β F.β E.β_alive F.β_alive);
  }

  pub ⊙-comm : (p q : Site) → p ⊙ q ~ q ⊙ p
  ⊙-comm p q = ~-same (p ⊙ q) (q ⊙ p) (prod_comm (order r D) p.set q.set) (prod_comm (order r D) q.set p.set) (omega arith)

  pub ⊙-assoc : (p q s : Site) → (p ⊙ q) ⊙ s ~ p ⊙ (q ⊙ s)
  ⊙-assoc p q s = ~-same ((p ⊙ q) ⊙ s) (p ⊙ (q ⊙ s)) (prod_assoc (order r D) p.set q.set s.set) (prod_assoc⁻¹ (order r D) p.set q.set s.set) (omega arith)

  pub ⊙-one : (p : Site) → at one 0 ⊙ p ~ p
  ⊙-one p = ~-same (at one 0 ⊙ p) p
      (prod_fold (order r D) (I r one) p.set p.set (λ x y ζ hx hy e. rw e (p.plus_in x y hx hy))
      (λ i j ζ hi hj e. rw e (p.times_in i j hj)))
      (λ ζ h. single 𝟏 ζ (in_one 𝟏) h (sym (one-⊗ (order r D) ζ)))
      (omega arith)

  -- laws that follow
  pub ⊙-one' : (p : Site) → p ⊙ at one 0 ~ p
  ⊙-one' p = ~-trans (⊙-comm p (at one 0)) (⊙-one p)

  pub ⊙-four : (p q s t : Site) → (p ⊙ q) ⊙ (s ⊙ t) ~ (p ⊙ s) ⊙ (q ⊙ t)
  ⊙-four p q s t = ~-trans (⊙-assoc p q (s ⊙ t)) (~-trans (⊙-cong (~-refl p) swap) (~-sym (⊙-assoc p s (q ⊙ t))))
    where
      swap : q ⊙ (s ⊙ t) ~ s ⊙ (q ⊙ t)
      swap = ~-trans (~-sym (⊙-assoc q s t)) (~-trans (⊙-cong (⊙-comm q s) (~-refl t)) (⊙-assoc s q t))

  -- offsets: all of O at s and at t
  pub one_add : (s t : ℕ) → at one s ⊙ at one t ~ at one (s + t)
  one_add s t = ~-same (at one s ⊙ at one t) (at one (s + t)) (λ ζ h. in_one ζ)
      (λ ζ h. single 𝟏 ζ (in_one 𝟏) h (sym (one-⊗ (order r D) ζ))) (omega arith)

  pub power_cong : (n : ℕ) {p q : Site} → p ~ q → power n p ~ power n q
  power_cong zero {p} {q} E = ~-refl (at one 0)
  power_cong (suc n) {p} {q} E = ⊙-cong E (power_cong n E)

  pub power_add : (n k : ℕ) (p : Site) → power (n + k) p ~ power n p ⊙ power k p
  power_add zero k p = subst (λ x. power x p ~ at one 0 ⊙ power k p) (omega arith) (~-sym (⊙-one (power k p)))
  power_add (suc n) k p =
      subst (λ x. power x p ~ (p ⊙ power n p) ⊙ power k p) e
      (~-trans (⊙-cong (~-refl p) (power_add n k p)) (~-sym (⊙-assoc p (power n p) (power k p))))
    where
      e : suc (n + k) ≡ suc n + k
      e = omega arith

  pub power_mul : (n k : ℕ) (p : Site) → power n (power k p) ~ power (n * k) p
  power_mul zero k p = subst (λ x. at one 0 ~ power x p) (sym (zero-mul k)) (~-refl (at one 0))
  power_mul (suc n) k p =
      subst (λ x. power k p ⊙ power n (power k p) ~ power x p) e
      (~-trans (⊙-cong (~-refl (power k p)) (power_mul n k p)) (~-sym (power_add k (n * k) p)))
    where
      e : k + n * k ≡ suc n * k
      e = omega (arith, suc-mul n k)

  pub power-⊙ : (n : ℕ) (p q : Site) → power n (p ⊙ q) ~ power n p ⊙ power n q
  power-⊙ zero p q = ~-sym (⊙-one (at one 0))
  power-⊙ (suc n) p q = ~-trans (⊙-cong (~-refl (p ⊙ q)) (power-⊙ n p q)) (⊙-four p q (power n p) (power n q))

  pub power_one : (n t : ℕ) → power n (at one t) ~ at one (n * t)
  power_one zero t = subst (λ x. at one 0 ~ at one x) (sym (zero-mul t)) (~-refl (at one 0))
  power_one (suc n) t =
      subst (λ x. at one t ⊙ power n (at one t) ~ at one x) e (~-trans (⊙-cong (~-refl (at one t)) (power_one n t)) (one_add t (n * t)))
    where
      e : t + n * t ≡ suc n * t
      e = omega (arith, suc-mul n t)

  -- moving both offsets
  pub shift : (a b : Ideal r D) (f g h k f' g' h' k' : ℕ) → site a f g ~ site b h k → f + k + (h' + g') ≡ h + g + (f' + k') → site a f' g' ~ site b h' k'
  shift a b f g h k f' g' h' k' E e = record {
    α = E.α;
    β = E.β;
    α_alive = E.α_alive;
    β_alive = E.β_alive;
    to = E.to;
    from = E.from;
    off = omega (arith, E.off);
  }

  -- elements of O
  pub O_zero? : (a : O R) → Dec (a ≡ 𝟎)
  O_zero? a = Dec.of_iff (λ h i. mk (h.0 i) (h.1 i), λ z. (ap (λ x. x.u) z, ap (λ x. x.v) z)) (Dec.and (K.zero? a.u) (K.zero? a.v))
