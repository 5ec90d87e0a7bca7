-- n times a place, by the rule of addition: it exists and is one, n times place t is place n·t, and two ends that each multiply the
-- other's place by their own distance meet.
use mathlib.Core.Path.{◌≡◌, subst}
use Prim.Native.Nat.{ℕ, zero, suc, ◌+◌, ◌*◌}
use native.Mathlib.Nat.{mul_comm}
use Rattle.ring.proofs.PolyRing.{PolyRing}
use Rattle.algebra.specs.Settings.{Setting}
use Rattle.algebra.specs.Places.{Place, place, LawfulPlace, origin, AddsTo, Times, none, more}
use Rattle.algebra.specs.Lines.{PlaceAt}
use Rattle.algebra.proofs.Adds.{adds_lawful, adds-~, adds_exists}
use Rattle.algebra.proofs.Group.{origin_lawful, sum_comm, Multiple, multiple_zero, multiple_suc, multiple_unique, multiple_add, multiple_sum, multiple_multiple}
use Rattle.algebra.proofs.Line.{place_unique, place_multiple}

module _ {C R : Type 0} (K : PolyRing C R) (S : Setting K) where
  pub times_lawful : {p : Place K S} {n : ℕ} {q : Place K S} → Times K S p n q → LawfulPlace K S q
  times_lawful none = origin_lawful K S
  times_lawful (more t a) = adds_lawful K S a

  pub times_multiple : {p : Place K S} {n : ℕ} {q : Place K S} → Times K S p n q → Multiple K S n p q
  times_multiple {p = p} none = multiple_zero K S p
  times_multiple {p = p} (more {n = n} {q = q} {s = s} t a) =
      multiple_suc K S n p q s (times_multiple t) (sum_comm K S q p s (adds-~ K S a))

  pub times_exists : (n : ℕ) (p : Place K S) → (q : Place K S) × Times K S p n q
  times_exists zero p = (origin K S, none)
  times_exists (suc n) p =
      let (q, t) = times_exists n p in
      let (c, h, a) = adds_exists K S q.ideal q.off p.ideal p.off in
      (place K S c h, more t a)

  pub times_of : (n : ℕ) (p q : Place K S) → LawfulPlace K S q → Multiple K S n p q → Times K S p n q
  times_of n p q l e =
      let (s, t) = times_exists n p in
      subst (Times K S p n) (multiple_unique K S n p s q (times_lawful t) l (times_multiple t) e) t

  pub times_unique : (n : ℕ) (p q s : Place K S) → Times K S p n q → Times K S p n s → q ≡ s
  times_unique n p q s t u = multiple_unique K S n p q s (times_lawful t) (times_lawful u) (times_multiple t) (times_multiple u)

  -- n p + k p = (n + k) p, n p + n q = n (p + q), and n (k p) = (n k) p
  pub times_add : (n k : ℕ) (p x y z : Place K S) → Times K S p n x → Times K S p k y → AddsTo K S x y z → Times K S p (n + k) z
  times_add n k p x y z t u a =
      times_of (n + k) p z (adds_lawful K S a) (multiple_add K S n k p x y z (times_multiple t) (times_multiple u) (adds-~ K S a))

  pub times_distributes : (n : ℕ) (p q s x y z : Place K S) → AddsTo K S p q s → Times K S p n x → Times K S q n y → AddsTo K S x y z → Times K S s n z
  times_distributes n p q s x y z a t u b = times_of n s z (adds_lawful K S b)
      (multiple_sum K S n p q s x y z (adds-~ K S a) (times_multiple t) (times_multiple u) (adds-~ K S b))

  pub times_times : (n k : ℕ) (p x y : Place K S) → Times K S p k x → Times K S x n y → Times K S p (n * k) y
  times_times n k p x y t u =
      times_of (n * k) p y (times_lawful u) (multiple_multiple K S n k p x y (times_multiple t) (times_multiple u))

  -- n times place t is place n t
  pub place_times : {n t : ℕ} {p q : Place K S} → PlaceAt K S t p → Times K S p n q → PlaceAt K S (n * t) q
  place_times {n} {t} {p} {q} π τ = place_multiple K S n p q π (times_lawful τ) (times_multiple τ)

  -- both multiples are place δ δ'
  pub times_meet : {δ δ' : ℕ} (a b x y : Place K S) → PlaceAt K S δ a → PlaceAt K S δ' b → Times K S b δ x → Times K S a δ' y
      → (x ≡ y) × PlaceAt K S (δ * δ') x
  times_meet {δ} {δ'} a b x y π ρ τ υ =
      let ξ = place_times ρ τ in
      (place_unique K S ξ (rw (mul_comm δ δ') (place_times π υ)), ξ)
