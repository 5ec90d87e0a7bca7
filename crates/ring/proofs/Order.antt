-- The ring O of u + v·y, where u and v are from R and y·y = D: its laws, conjugates u − v·y, and norms u·u − v·v·D, which are
-- multiplicative. It has no coefficients and no lengths of its own; those come with R.
use mathlib.Core.Path.{◌≡◌, ap₂}
use mathlib.Core.List.{[], ◌∷◌}
use Rattle.ring.proofs.Ring.{CommRing, Divides}
use Rattle.ring.proofs.Quote.{quote, auto}
use Rattle.ring.proofs.Hypotheses.{by_hyp₂}

pub record O (R : Type 0) : Type 0 where
  pub u : R
  pub v : R

abbrev pub mk : {R : Type 0} → R → R → O R
mk a b = record { u = a; v = b }

module _ {R : Type 0} (r : CommRing R) (D : R) where
  infixl 60 ◌⊕◌
  infixl 70 ◌⊗◌
  infix 80 ⊖◌
  open r use {𝟘, 𝟙, ◌⊕◌, ⊖◌, ◌⊗◌}

  abbrev pub plus : O R → O R → O R
  plus a b = mk (a.u ⊕ b.u) (a.v ⊕ b.v)

  abbrev pub times : O R → O R → O R
  times a b = mk (a.u ⊗ b.u ⊕ a.v ⊗ b.v ⊗ D) (a.u ⊗ b.v ⊕ a.v ⊗ b.u)

  pub times_assoc : (a b c : O R) → times (times a b) c ≡ times a (times b c)
  times_assoc a b c = ap₂ mk
      (auto r (D ∷ a.u ∷ a.v ∷ b.u ∷ b.v ∷ c.u ∷ c.v ∷ []) (search quote depth 20) tt)
      (auto r (D ∷ a.u ∷ a.v ∷ b.u ∷ b.v ∷ c.u ∷ c.v ∷ []) (search quote depth 20) tt)

  pub times_comm : (a b : O R) → times a b ≡ times b a
  times_comm a b = ap₂ mk
      (auto r (D ∷ a.u ∷ a.v ∷ b.u ∷ b.v ∷ []) (search quote depth 20) tt)
      (auto r (D ∷ a.u ∷ a.v ∷ b.u ∷ b.v ∷ []) (search quote depth 20) tt)

  pub times_one : (a : O R) → times a (mk 𝟙 𝟘) ≡ a
  times_one a = ap₂ mk
      (auto r (D ∷ a.u ∷ a.v ∷ []) (search quote depth 20) tt)
      (auto r (D ∷ a.u ∷ a.v ∷ []) (search quote depth 20) tt)

  pub times_dist : (a b c : O R) → times a (plus b c) ≡ plus (times a b) (times a c)
  times_dist a b c = ap₂ mk
      (auto r (D ∷ a.u ∷ a.v ∷ b.u ∷ b.v ∷ c.u ∷ c.v ∷ []) (search quote depth 20) tt)
      (auto r (D ∷ a.u ∷ a.v ∷ b.u ∷ b.v ∷ c.u ∷ c.v ∷ []) (search quote depth 20) tt)

  abbrev pub order : CommRing (O R)
  order = record {
    𝟘 = mk 𝟘 𝟘;
    𝟙 = mk 𝟙 𝟘;
    ◌⊕◌ = plus;
    ⊖◌ = λ a. mk (⊖ a.u) (⊖ a.v);
    ◌⊗◌ = times;
    ⊕-assoc = λ a b c. ap₂ mk (r.⊕-assoc a.u b.u c.u) (r.⊕-assoc a.v b.v c.v);
    ⊕-comm = λ a b. ap₂ mk (r.⊕-comm a.u b.u) (r.⊕-comm a.v b.v);
    ⊕-zero = λ a. ap₂ mk (r.⊕-zero a.u) (r.⊕-zero a.v);
    ⊕-neg = λ a. ap₂ mk (r.⊕-neg a.u) (r.⊕-neg a.v);
    ⊗-assoc = times_assoc;
    ⊗-comm = times_comm;
    ⊗-one = times_one;
    ⊗-dist = times_dist;
  }

  abbrev pub conj : O R → O R
  conj a = mk a.u (⊖ a.v)

  abbrev pub norm : O R → R
  norm a = a.u ⊗ a.u ⊕ ⊖ (a.v ⊗ a.v ⊗ D)

  pub norm_mul : (a b : O R) → norm (order.◌⊗◌ a b) ≡ norm a ⊗ norm b
  norm_mul a b = auto r (D ∷ a.u ∷ a.v ∷ b.u ∷ b.v ∷ []) (search quote depth 20) tt

  pub conj_mul : (a b : O R) → conj (order.◌⊗◌ a b) ≡ order.◌⊗◌ (conj a) (conj b)
  conj_mul a b = ap₂ mk
      (auto r (D ∷ a.u ∷ a.v ∷ b.u ∷ b.v ∷ []) (search quote depth 20) tt)
      (auto r (D ∷ a.u ∷ a.v ∷ b.u ∷ b.v ∷ []) (search quote depth 20) tt)

  pub norm_is : (a : O R) → order.◌⊗◌ a (conj a) ≡ mk (norm a) 𝟘
  norm_is a = ap₂ mk
      (auto r (D ∷ a.u ∷ a.v ∷ []) (search quote depth 20) tt)
      (auto r (D ∷ a.u ∷ a.v ∷ []) (search quote depth 20) tt)

  -- the elements u + v·y with Q | u − v·P are closed under sums, and where Q divides D − P·P under multiples
  module _ (Q P : R) where
    pub in_plus : (ζ η : O R) → Divides r Q (ζ.u ⊕ ⊖ (ζ.v ⊗ P)) → Divides r Q (η.u ⊕ ⊖ (η.v ⊗ P))
        → Divides r Q ((plus ζ η).u ⊕ ⊖ ((plus ζ η).v ⊗ P))
    in_plus ζ η h g = (
      h.0 ⊕ g.0,
      by_hyp₂ r 𝟙 h.1 𝟙 g.1
          (auto r (Q ∷ P ∷ ζ.u ∷ ζ.v ∷ η.u ∷ η.v ∷ h.0 ∷ g.0 ∷ []) (search quote depth 20) tt),
    )

    pub in_times : Divides r Q (D ⊕ ⊖ (P ⊗ P)) → (ω ζ : O R) → Divides r Q (ζ.u ⊕ ⊖ (ζ.v ⊗ P))
        → Divides r Q ((times ω ζ).u ⊕ ⊖ ((times ω ζ).v ⊗ P))
    in_times x ω ζ h = (
      ω.u ⊗ h.0 ⊕ ⊖ (ω.v ⊗ P ⊗ h.0) ⊕ ω.v ⊗ ζ.v ⊗ x.0,
      by_hyp₂ r (ω.u ⊕ ⊖ (ω.v ⊗ P)) h.1 (ω.v ⊗ ζ.v) x.1
          (auto r (D ∷ Q ∷ P ∷ x.0 ∷ ζ.u ∷ ζ.v ∷ ω.u ∷ ω.v ∷ h.0 ∷ []) (search quote depth 20) tt),
    )
