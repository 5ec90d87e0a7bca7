-- The lawful places under addition: sums are one, commutative and associative, with place 0 neutral. They are shown of the sites that
-- the places stand for, and carried to the rule of addition by uniqueness. `Multiple n p q` says that q is p added n times, up to
-- equivalence.
use mathlib.Core.Path.{◌≡◌, sym, ◌∙◌, ap, ap₂, subst}
use Prim.Native.Nat.{ℕ, suc, ◌+◌, ◌*◌}
use native.Mathlib.Omega.{arith}
use Rattle.ring.proofs.PolyRing.{PolyRing}
use Rattle.ring.proofs.Lengths.{cancel-⊗}
use Rattle.algebra.proofs.Sites.{~-refl, ~-sym, ~-trans, ⊙-cong, ⊙-comm, ⊙-assoc, ⊙-one, ⊙-one', power_cong, power_add, power_mul, power-⊙}
use Rattle.algebra.proofs.Unique.{unique}
use Rattle.algebra.proofs.Adds.{adds-~, adds_lawful, adds_exists}
use Rattle.algebra.specs.Settings.{Setting}
use Rattle.algebra.specs.Equivalence.{Site, at, ◌~◌, ◌⊙◌, power}
use Rattle.algebra.specs.Places.{Adds, Place, place, LawfulPlace, origin, AddsTo}

-- the leading coefficient of 1
pub coef_one : {C R : Type 0} (K : PolyRing C R) → K.coef K.r.𝟙 0 ≡ K.k.𝟙
coef_one K = cancel-⊗ K.k K.c_zero? K.c_domain (K.coef K.r.𝟙 0) (K.coef K.r.𝟙 0) K.k.𝟙
    (K.coef_top K.r.𝟙 0 (omega (arith, K.len_one)))
    (sym (K.coef_mul K.r.𝟙 K.r.𝟙 0 0 (omega (arith, K.len_one)) (omega (arith, K.len_one)))
    ∙ ap (λ x. K.coef x 0) (K.r.⊗-one K.r.𝟙) ∙ sym (K.k.⊗-one (K.coef K.r.𝟙 0)))

module _ {C R : Type 0} (K : PolyRing C R) (S : Setting K) where
  open K use {r, len}
  open S use {D, m}

  abbrev pub site_of : Place K S → Site K S
  site_of p = at K S p.ideal p.off

  pub origin_lawful : LawfulPlace K S (origin K S)
  origin_lawful = record {
    standard = record {
      small = omega (arith, K.len_one, K.len_zero);
      monic = λ n e. (let z : n ≡ 0 = omega (arith, K.len_one) in ap (K.coef r.𝟙) z ∙ coef_one K);
    };
    fits = omega (arith, K.len_one, S.m_big);
  }

  pub lawful_unique : (p q : Place K S) → LawfulPlace K S p → LawfulPlace K S q → ◌~◌ K S (site_of p) (site_of q) → p ≡ q
  lawful_unique p q lp lq E =
      let w = unique K S p.ideal q.ideal p.off q.off lp lq E in
      ap₂ (place K S) w.0 w.1

  -- s is the sum of p and q
  abbrev pub Sum : Place K S → Place K S → Place K S → Type 0
  Sum p q s = ◌~◌ K S (◌⊙◌ K S (site_of p) (site_of q)) (site_of s)

  pub sum_unique : (p q s t : Place K S) → LawfulPlace K S s → LawfulPlace K S t → Sum p q s → Sum p q t → s ≡ t
  sum_unique p q s t ls lt E F = lawful_unique s t ls lt (~-trans K S (~-sym K S E) F)

  -- the algorithm gives it, and always ends
  pub sum_adds : (p q s : Place K S) → Adds K S p.ideal p.off q.ideal q.off s.ideal s.off → LawfulPlace K S s × Sum p q s
  sum_adds p q s A = (adds_lawful K S A, adds-~ K S A)

  pub adds_unique : (p q s t : Place K S) → Adds K S p.ideal p.off q.ideal q.off s.ideal s.off
      → Adds K S p.ideal p.off q.ideal q.off t.ideal t.off → s ≡ t
  adds_unique p q s t A B = sum_unique p q s t (adds_lawful K S A) (adds_lawful K S B) (adds-~ K S A) (adds-~ K S B)

  pub sum_comm : (p q s : Place K S) → Sum p q s → Sum q p s
  sum_comm p q s E = ~-trans K S (⊙-comm K S (site_of q) (site_of p)) E

  -- (p + q) + s = p + (q + s)
  pub sum_assoc : (p q s x y z : Place K S) → Sum p q x → Sum x s y → Sum q s z → Sum p z y
  sum_assoc p q s x y z E F G =
      ~-trans K S (⊙-cong K S (~-refl K S (site_of p)) (~-sym K S G))
      (~-trans K S (~-sym K S (⊙-assoc K S (site_of p) (site_of q) (site_of s))) (~-trans K S (⊙-cong K S E (~-refl K S (site_of s))) F))

  pub sum_origin : (p : Place K S) → Sum (origin K S) p p
  sum_origin p = ⊙-one K S (site_of p)

  -- the same of the algorithm, since its result is one
  pub adds_of : (p q s : Place K S) → LawfulPlace K S s → Sum p q s → AddsTo K S p q s
  adds_of p q s ls E =
      let (c, h, A) = adds_exists K S p.ideal p.off q.ideal q.off in
      subst (AddsTo K S p q) (sum_unique p q (place K S c h) s (adds_lawful K S A) ls (adds-~ K S A) E) A

  pub adds_comm : (p q s : Place K S) → AddsTo K S p q s → AddsTo K S q p s
  adds_comm p q s A = adds_of q p s (adds_lawful K S A) (sum_comm p q s (adds-~ K S A))

  pub adds_assoc : (p q s x y z : Place K S) → AddsTo K S p q x → AddsTo K S x s y → AddsTo K S q s z → AddsTo K S p z y
  adds_assoc p q s x y z A B E = adds_of p z y (adds_lawful K S B) (sum_assoc p q s x y z (adds-~ K S A) (adds-~ K S B) (adds-~ K S E))

  pub adds_origin : (p : Place K S) → LawfulPlace K S p → AddsTo K S (origin K S) p p
  adds_origin p l = adds_of (origin K S) p p l (sum_origin p)

  -- q is p added n times
  abbrev pub Multiple : ℕ → Place K S → Place K S → Type 0
  Multiple n p q = ◌~◌ K S (power K S n (site_of p)) (site_of q)

  pub multiple_unique : (n : ℕ) (p q s : Place K S) → LawfulPlace K S q → LawfulPlace K S s → Multiple n p q → Multiple n p s → q ≡ s
  multiple_unique n p q s lq ls E F = lawful_unique q s lq ls (~-trans K S (~-sym K S E) F)

  pub multiple_zero : (p : Place K S) → Multiple 0 p (origin K S)
  multiple_zero p = ~-refl K S (site_of (origin K S))

  pub multiple_one : (p : Place K S) → Multiple 1 p p
  multiple_one p = ⊙-one' K S (site_of p)

  pub multiple_suc : (n : ℕ) (p q s : Place K S) → Multiple n p q → Sum p q s → Multiple (suc n) p s
  multiple_suc n p q s E F = ~-trans K S (⊙-cong K S (~-refl K S (site_of p)) E) F

  -- n p + k p = (n + k) p
  pub multiple_add : (n k : ℕ) (p x y z : Place K S) → Multiple n p x → Multiple k p y → Sum x y z → Multiple (n + k) p z
  multiple_add n k p x y z E F G = ~-trans K S (power_add K S n k (site_of p)) (~-trans K S (⊙-cong K S E F) G)

  pub multiple_double : (n : ℕ) (p x y : Place K S) → Multiple n p x → Sum x x y → Multiple (n + n) p y
  multiple_double n p x y E F = multiple_add n n p x x y E E F

  pub multiple_next : (n : ℕ) (p x y : Place K S) → Multiple n p x → Sum x p y → Multiple (n + 1) p y
  multiple_next n p x y E F = multiple_add n 1 p x p y E (multiple_one p) F

  -- n (k p) = (n k) p
  pub multiple_multiple : (n k : ℕ) (p x y : Place K S) → Multiple k p x → Multiple n x y → Multiple (n * k) p y
  multiple_multiple n k p x y E F = ~-trans K S (~-sym K S (power_mul K S n k (site_of p))) (~-trans K S (power_cong K S n E) F)

  -- n (p + q) = n p + n q
  pub multiple_sum : (n : ℕ) (p q s x y z : Place K S) → Sum p q s → Multiple n p x → Multiple n q y → Sum x y z → Multiple n s z
  multiple_sum n p q s x y z E F G H =
      ~-trans K S (power_cong K S n (~-sym K S E)) (~-trans K S (power-⊙ K S n (site_of p) (site_of q)) (~-trans K S (⊙-cong K S F G) H))
