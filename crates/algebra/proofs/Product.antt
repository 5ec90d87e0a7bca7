-- The product of two ideals: with s = X Qa + Z Qb + Y (Pa + Pb) dividing Qa, Qb and Pa + Pb,
-- I(a) I(b) = s I(Qc, Pc), where Qa Qb = s² Qc and s Pc = X Qa Pb + Z Qb Pa + Y (Pa Pb + D).
use mathlib.Core.Path.{◌≡◌, refl, sym, ◌∙◌, ap, ap₂}
use mathlib.Core.Logic.{◌≢◌}
use mathlib.Core.List.{[], ◌∷◌}
use Prim.Native.Nat.{◌+◌}
use native.Mathlib.Omega.{arith}
use Rattle.ring.proofs.Ring.{CommRing, one-⊗, Divides}
use Rattle.ring.proofs.Quote.{quote, auto}
use Rattle.ring.proofs.Hypotheses.{by_hyp, by_hyp₂, by_hyp₃, by_null, ◌⊞◌, null}
use Rattle.ring.proofs.PolyRing.{PolyRing}
use Rattle.ring.proofs.Order.{O, mk, times, plus, order, times_dist, in_plus}
use Rattle.ring.proofs.Sets.{Sub, Prod, single, summed, prod_map, prod_fold}
use Rattle.algebra.proofs.Ideal.{in_Q, in_y, in_sum}
use Rattle.ring.proofs.Lengths.{domain, ⊗-cancel, right_alive, half}
use Rattle.ring.proofs.Euclid.{gcd, coprime_one, divides_trans}
use Rattle.algebra.specs.Settings.{Setting}
use Rattle.algebra.specs.Ideals.{In, Ideal, I}
use Rattle.algebra.specs.Products.{Product}

module _ {R : Type 0} (r : CommRing R) where
  infixl 60 ◌⊕◌
  infixl 70 ◌⊗◌
  infix 80 ⊖◌
  open r use {𝟘, 𝟙, ◌⊕◌, ⊖◌, ◌⊗◌}

  -- the multipliers of Qa, Qb and p from those of two greatest common divisors
  pub joined : (s g u y x z Qa Qb p : R) → s ≡ u ⊗ g ⊕ y ⊗ p → g ≡ x ⊗ Qa ⊕ z ⊗ Qb → s ≡ u ⊗ x ⊗ Qa ⊕ u ⊗ z ⊗ Qb ⊕ y ⊗ p
  joined s g u y x z Qa Qb p h e = by_hyp₂ r 𝟙 h u e (auto r (s ∷ g ∷ u ∷ y ∷ x ∷ z ∷ Qa ∷ Qb ∷ p ∷ []) (search quote depth 20) tt)

  -- the same with s divided out: Qa = A s, Qb = B s, Pa + Pb = E s, Pa Pb + D = s G
  module _ (D s A B E G Ca Cb X Y Z Pa Pb Pc : R)
      (one : X ⊗ A ⊕ Z ⊗ B ⊕ Y ⊗ E ≡ 𝟙)
      (sum : Pa ⊕ Pb ≡ E ⊗ s)
      (cross : Pa ⊗ Pb ⊕ D ≡ s ⊗ G)
      (Ga : G ≡ Pa ⊗ E ⊕ Ca ⊗ A)
      (Gb : G ≡ Pb ⊗ E ⊕ Cb ⊗ B)
      (mid : Pc ≡ X ⊗ A ⊗ Pb ⊕ Z ⊗ B ⊗ Pa ⊕ Y ⊗ G) where
    Pc_from_a : Pc ≡ Pa ⊕ A ⊗ (X ⊗ (Pb ⊕ ⊖ Pa) ⊕ Y ⊗ Ca)
    Pc_from_a = by_hyp₃ r 𝟙 mid Pa one Y Ga (auto r (A ∷ B ∷ E ∷ G ∷ Ca ∷ X ∷ Y ∷ Z ∷ Pa ∷ Pb ∷ Pc ∷ []) (search quote depth 20) tt)

    Pc_from_b : Pc ≡ Pb ⊕ B ⊗ (Z ⊗ (Pa ⊕ ⊖ Pb) ⊕ Y ⊗ Cb)
    Pc_from_b = by_hyp₃ r 𝟙 mid Pb one Y Gb (auto r (A ∷ B ∷ E ∷ G ∷ Cb ∷ X ∷ Y ∷ Z ∷ Pa ∷ Pb ∷ Pc ∷ []) (search quote depth 20) tt)

    G_from_Pc : G ⊕ ⊖ (E ⊗ Pc) ≡ A ⊗ B ⊗ (X ⊗ Cb ⊕ Z ⊗ Ca)
    G_from_Pc = by_null (null r (⊖ E) mid ⊞ null r (⊖ G) one ⊞ null r (X ⊗ A) Gb ⊞ null r (Z ⊗ B) Ga)
        (auto r (A ∷ B ∷ E ∷ G ∷ Ca ∷ Cb ∷ X ∷ Y ∷ Z ∷ Pa ∷ Pb ∷ Pc ∷ []) (search quote depth 20) tt)

    -- from here on X, Y, Z, Ca and Cb stand only in U, V and W
    module _ (U V W : R) (hU : Pc ≡ Pa ⊕ A ⊗ U) (hV : Pc ≡ Pb ⊕ B ⊗ V) (hW : G ⊕ ⊖ (E ⊗ Pc) ≡ A ⊗ B ⊗ W) where
      core_divides : Divides r (A ⊗ B) (D ⊕ ⊖ (Pc ⊗ Pc))
      core_divides = (
        s ⊗ W ⊕ ⊖ (U ⊗ V),
        by_null (null r 𝟙 cross ⊞ null r s hW ⊞ null r (⊖ Pc) sum ⊞ null r (Pb ⊕ ⊖ Pc) hU ⊞ null r (⊖ (A ⊗ U)) hV)
            (auto r (D ∷ s ∷ A ∷ B ∷ E ∷ G ∷ Pa ∷ Pb ∷ Pc ∷ U ∷ V ∷ W ∷ []) (search quote depth 20) tt),
      )

      core_in : (α β a b : R) → In r (A ⊗ B) Pc (mk (α ⊗ β ⊗ s ⊗ A ⊗ B ⊕ α ⊗ b ⊗ A ⊗ Pb ⊕ β ⊗ a ⊗ B ⊗ Pa ⊕ a ⊗ b ⊗ G) (α ⊗ b ⊗ A ⊕ β ⊗ a ⊗ B ⊕ a ⊗ b ⊗ E))
      core_in α β a b = (
        α ⊗ β ⊗ s ⊕ ⊖ (α ⊗ b ⊗ V) ⊕ ⊖ (β ⊗ a ⊗ U) ⊕ a ⊗ b ⊗ W,
        by_hyp₃ r (⊖ (β ⊗ a ⊗ B)) hU (⊖ (α ⊗ b ⊗ A)) hV (a ⊗ b) hW
            (auto r (α ∷ β ∷ a ∷ b ∷ s ∷ A ∷ B ∷ E ∷ G ∷ Pa ∷ Pb ∷ Pc ∷ U ∷ V ∷ W ∷ []) (search quote depth 20) tt),
      )

    core_exact : Divides r (A ⊗ B) (D ⊕ ⊖ (Pc ⊗ Pc))
    core_exact = core_divides _ _ _ Pc_from_a Pc_from_b G_from_Pc

    product_u : (α β a b u w : R) → u ≡ α ⊗ (A ⊗ s) ⊕ a ⊗ Pa → w ≡ β ⊗ (B ⊗ s) ⊕ b ⊗ Pb
        → u ⊗ w ⊕ a ⊗ b ⊗ D ≡ s ⊗ (α ⊗ β ⊗ s ⊗ A ⊗ B ⊕ α ⊗ b ⊗ A ⊗ Pb ⊕ β ⊗ a ⊗ B ⊗ Pa ⊕ a ⊗ b ⊗ G)
    product_u α β a b u w hu hw =
        ap₂ (λ x y. x ⊗ y ⊕ a ⊗ b ⊗ D) hu hw
        ∙ by_hyp r (a ⊗ b) cross (auto r (D ∷ s ∷ A ∷ B ∷ G ∷ Pa ∷ Pb ∷ α ∷ β ∷ a ∷ b ∷ []) (search quote depth 20) tt)

    product_v : (α β a b u w : R) → u ≡ α ⊗ (A ⊗ s) ⊕ a ⊗ Pa → w ≡ β ⊗ (B ⊗ s) ⊕ b ⊗ Pb
        → u ⊗ b ⊕ a ⊗ w ≡ s ⊗ (α ⊗ b ⊗ A ⊕ β ⊗ a ⊗ B ⊕ a ⊗ b ⊗ E)
    product_v α β a b u w hu hw =
        ap₂ (λ x y. x ⊗ b ⊕ a ⊗ y) hu hw
        ∙ by_hyp r (a ⊗ b) sum (auto r (s ∷ A ∷ B ∷ E ∷ Pa ∷ Pb ∷ α ∷ β ∷ a ∷ b ∷ []) (search quote depth 20) tt)

    u_of_element : (q P : R) (ζ : O R) (h : In r q P ζ) → ζ.u ≡ h.0 ⊗ q ⊕ ζ.v ⊗ P
    u_of_element q P ζ h = by_hyp r 𝟙 h.1 (auto r (q ∷ P ∷ ζ.u ∷ ζ.v ∷ h.0 ∷ []) (search quote depth 20) tt)

    -- a multiple of s
    plain_times_u : (x y w : R) → s ⊗ x ≡ s ⊗ x ⊕ 𝟘 ⊗ y ⊗ w
    plain_times_u x y w = auto r (s ∷ x ∷ y ∷ w ∷ []) (search quote depth 20) tt

    plain_times_v : (x y : R) → s ⊗ x ≡ s ⊗ x ⊕ 𝟘 ⊗ y
    plain_times_v x y = auto r (s ∷ x ∷ y ∷ []) (search quote depth 20) tt

    core-⊆ : (i j : O R) → In r (A ⊗ s) Pa i → In r (B ⊗ s) Pb j → (ζ : O R) × In r (A ⊗ B) Pc ζ × (times r D i j ≡ times r D (mk s 𝟘) ζ)
    core-⊆ i j h g = (
      _,
      core_in _ _ _ Pc_from_a Pc_from_b G_from_Pc h.0 g.0 i.v j.v,
      ap₂ mk
          (product_u h.0 g.0 i.v j.v i.u j.u (u_of_element (A ⊗ s) Pa i h) (u_of_element (B ⊗ s) Pb j g) ∙ plain_times_u _ _ _)
          (product_v h.0 g.0 i.v j.v i.u j.u (u_of_element (A ⊗ s) Pa i h) (u_of_element (B ⊗ s) Pb j g) ∙ plain_times_v _ _),
    )

    -- the other way, with 1 = x s + y (Pb − Pa) + z Ca
    module _ (x y z : R) (unit : x ⊗ s ⊕ y ⊗ (Pb ⊕ ⊖ Pa) ⊕ z ⊗ Ca ≡ 𝟙) (ζ : O R) (h : In r (A ⊗ B) Pc ζ) where
      abbrev c₁ : R
      c₁ = h.0 ⊗ x

      abbrev c₂ : R
      c₂ = h.0 ⊗ y ⊗ B ⊕ ζ.v ⊗ X

      abbrev c₃ : R
      c₃ = ⊖ (h.0 ⊗ (y ⊗ A ⊕ z ⊗ E)) ⊕ ζ.v ⊗ Z

      abbrev c₄ : R
      c₄ = h.0 ⊗ z ⊗ B ⊕ ζ.v ⊗ Y

      part_v : ζ.v ≡ A ⊗ c₂ ⊕ B ⊗ c₃ ⊕ E ⊗ c₄
      part_v = by_hyp r (⊖ ζ.v) one (auto r (A ∷ B ∷ E ∷ X ∷ Y ∷ Z ∷ y ∷ z ∷ h.0 ∷ ζ.v ∷ []) (search quote depth 20) tt)

      part_u : ζ.u ≡ s ⊗ A ⊗ B ⊗ c₁ ⊕ A ⊗ Pb ⊗ c₂ ⊕ Pa ⊗ B ⊗ c₃ ⊕ G ⊗ c₄
      part_u = u_of_element (A ⊗ B) Pc ζ h
          ∙ by_null (null r ζ.v mid ⊞ null r (⊖ (h.0 ⊗ A ⊗ B)) unit ⊞ null r (⊖ (h.0 ⊗ z ⊗ B)) Ga)
          (auto r (h.0 ∷ ζ.v ∷ x ∷ y ∷ z ∷ s ∷ A ∷ B ∷ E ∷ G ∷ Ca ∷ X ∷ Y ∷ Z ∷ Pa ∷ Pb ∷ Pc ∷ []) (search quote depth 20) tt)

      core-⊇ : Prod (order r D) (In r (A ⊗ s) Pa) (In r (B ⊗ s) Pb) (times r D (mk s 𝟘) ζ)
      core-⊇ = summed _ _
          (single (mk (A ⊗ s) 𝟘) (mk (c₁ ⊗ (B ⊗ s) ⊕ c₂ ⊗ Pb) c₂) (in_Q r (A ⊗ s) Pa) (in_sum r (B ⊗ s) Pb c₁ c₂) refl)
          (single (mk Pa 𝟙) (mk (c₃ ⊗ (B ⊗ s) ⊕ c₄ ⊗ Pb) c₄) (in_y r (A ⊗ s) Pa) (in_sum r (B ⊗ s) Pb c₃ c₄) refl)
          (ap₂ mk (full_u c₁ c₂ c₃ c₄ ζ.u ζ.v part_u) (full_v c₁ c₂ c₃ c₄ ζ.u ζ.v part_v))
        where
          full_u : (a b c d u w : R) → u ≡ s ⊗ A ⊗ B ⊗ a ⊕ A ⊗ Pb ⊗ b ⊕ Pa ⊗ B ⊗ c ⊕ G ⊗ d
              → s ⊗ u ⊕ 𝟘 ⊗ w ⊗ D
              ≡ (A ⊗ s ⊗ (a ⊗ (B ⊗ s) ⊕ b ⊗ Pb) ⊕ 𝟘 ⊗ b ⊗ D) ⊕ (Pa ⊗ (c ⊗ (B ⊗ s) ⊕ d ⊗ Pb) ⊕ 𝟙 ⊗ d ⊗ D)
          full_u a b c d u w e = by_hyp₂ r s e (⊖ d) cross (auto r (a ∷ b ∷ c ∷ d ∷ u ∷ w ∷ D ∷ s ∷ A ∷ B ∷ G ∷ Pa ∷ Pb ∷ []) (search quote depth 20) tt)

          full_v : (a b c d u w : R) → w ≡ A ⊗ b ⊕ B ⊗ c ⊕ E ⊗ d
              → s ⊗ w ⊕ 𝟘 ⊗ u
              ≡ (A ⊗ s ⊗ b ⊕ 𝟘 ⊗ (a ⊗ (B ⊗ s) ⊕ b ⊗ Pb)) ⊕ (Pa ⊗ d ⊕ 𝟙 ⊗ (c ⊗ (B ⊗ s) ⊕ d ⊗ Pb))
          full_v a b c d u w e = by_hyp₂ r s e (⊖ d) sum (auto r (a ∷ b ∷ c ∷ d ∷ u ∷ w ∷ s ∷ A ∷ B ∷ E ∷ Pa ∷ Pb ∷ []) (search quote depth 20) tt)

module _ {C R : Type 0} (K : PolyRing C R) (S : Setting K) where
  infixl 60 ◌⊕◌
  infixl 70 ◌⊗◌
  infix 80 ⊖◌
  open K use {r, len}
  open S use {D}
  open r use {𝟘, 𝟙, ◌⊕◌, ⊖◌, ◌⊗◌}

  -- Pa Pb + D = s (Pa E + Ca A), from either side
  cross_term : (s A E Q P P' c : R) → P ⊕ P' ≡ E ⊗ s → Q ≡ A ⊗ s → D ⊕ ⊖ (P ⊗ P) ≡ c ⊗ Q → P ⊗ P' ⊕ D ≡ s ⊗ (P ⊗ E ⊕ c ⊗ A)
  cross_term s A E Q P P' c sum hA exact =
      by_hyp₃ r P sum c hA 𝟙 exact (auto r (s ∷ A ∷ E ∷ Q ∷ P ∷ P' ∷ c ∷ D ∷ []) (search quote depth 20) tt)

  -- from any multipliers the divisions are exact
  module _ (a b : Ideal r D) (s X Y Z : R) (is : s ≡ X ⊗ a.Q ⊕ Z ⊗ b.Q ⊕ Y ⊗ (a.P ⊕ b.P))
      (div_a : Divides r s a.Q) (div_b : Divides r s b.Q) (div_p : Divides r s (a.P ⊕ b.P)) where
    abbrev pub product_Q : R
    product_Q = div_a.0 ⊗ div_b.0

    abbrev pub product_P : R
    product_P = X ⊗ div_a.0 ⊗ b.P ⊕ Z ⊗ div_b.0 ⊗ a.P ⊕ Y ⊗ (a.P ⊗ div_p.0 ⊕ a.exact.0 ⊗ div_a.0)

    squared : (A B Qa Qb : R) → Qa ≡ A ⊗ s → Qb ≡ B ⊗ s → Qa ⊗ Qb ≡ s ⊗ s ⊗ (A ⊗ B)
    squared A B Qa Qb hA hB = ap₂ ◌⊗◌ hA hB ∙ auto r (s ∷ A ∷ B ∷ []) (search quote depth 20) tt

    middle : (A B G Qa Qb Pa Pb : R) → Qa ≡ A ⊗ s → Qb ≡ B ⊗ s → Pa ⊗ Pb ⊕ D ≡ s ⊗ G
        → s ⊗ (X ⊗ A ⊗ Pb ⊕ Z ⊗ B ⊗ Pa ⊕ Y ⊗ G) ≡ X ⊗ Qa ⊗ Pb ⊕ Z ⊗ Qb ⊗ Pa ⊕ Y ⊗ (Pa ⊗ Pb ⊕ D)
    middle A B G Qa Qb Pa Pb hA hB cross =
        by_hyp₃ r (⊖ (X ⊗ Pb)) hA (⊖ (Z ⊗ Pa)) hB (⊖ Y) cross
        (auto r (s ∷ A ∷ B ∷ G ∷ X ∷ Y ∷ Z ∷ Qa ∷ Qb ∷ Pa ∷ Pb ∷ D ∷ []) (search quote depth 20) tt)

    pub product_Q_is : a.Q ⊗ b.Q ≡ s ⊗ s ⊗ product_Q
    product_Q_is = squared div_a.0 div_b.0 a.Q b.Q div_a.1 div_b.1

    pub product_P_is : s ⊗ product_P ≡ X ⊗ a.Q ⊗ b.P ⊕ Z ⊗ b.Q ⊗ a.P ⊕ Y ⊗ (a.P ⊗ b.P ⊕ D)
    product_P_is = middle div_a.0 div_b.0 (a.P ⊗ div_p.0 ⊕ a.exact.0 ⊗ div_a.0) a.Q b.Q a.P b.P div_a.1 div_b.1
        (cross_term s div_a.0 div_p.0 a.Q a.P b.P a.exact.0 div_p.1 div_a.1 a.exact.1)

    abbrev pub product_with : Product K S a b s product_Q product_P
    product_with = record {
      X = X;
      Y = Y;
      Z = Z;
      is = is;
      div_a = div_a;
      div_b = div_b;
      div_p = div_p;
      Q_is = product_Q_is;
      P_is = product_P_is;
    }

  -- the greatest common divisor of Qa, Qb and Pa + Pb, with multipliers
  pub multipliers : (a b : Ideal r D) → (s : R) × (X : R) × (Y : R) × (Z : R) × (s ≡ X ⊗ a.Q ⊕ Z ⊗ b.Q ⊕ Y ⊗ (a.P ⊕ b.P))
      × Divides r s a.Q × Divides r s b.Q × Divides r s (a.P ⊕ b.P)
  multipliers a b =
      let g = gcd K a.Q b.Q in
      let h = gcd K g.g (a.P ⊕ b.P) in (
        h.g,
        h.x ⊗ g.x,
        h.y,
        h.x ⊗ g.y,
        joined r h.g g.g h.x h.y g.x g.y a.Q b.Q (a.P ⊕ b.P) h.is g.is,
        divides_trans K h.g g.g a.Q h.left g.left,
        divides_trans K h.g g.g b.Q h.left g.right,
        h.right,
      )

  -- so every two ideals have a product
  pub product : (a b : Ideal r D) → (s : R) × (Qc : R) × (Pc : R) × Product K S a b s Qc Pc
  product a b =
      let (s, X, Y, Z, is, div_a, div_b, div_p) = multipliers a b in
      (s, product_Q a b s X Y Z is div_a div_b div_p, product_P a b s X Y Z is div_a div_b div_p, product_with a b s X Y Z is div_a div_b div_p)

  -- Pc in the form Pa + (X Qa (Pb − Pa) + Y (D − Pa²)) / s
  pub product_by : (a b : Ideal r D) (s Qc W X Y Z : R) → s ≡ X ⊗ a.Q ⊕ Z ⊗ b.Q ⊕ Y ⊗ (a.P ⊕ b.P)
      → Divides r s a.Q → Divides r s b.Q → Divides r s (a.P ⊕ b.P) → a.Q ⊗ b.Q ≡ s ⊗ s ⊗ Qc
      → s ⊗ W ≡ X ⊗ a.Q ⊗ (b.P ⊕ ⊖ a.P) ⊕ Y ⊗ (D ⊕ ⊖ (a.P ⊗ a.P)) → Product K S a b s Qc (a.P ⊕ W)
  product_by a b s Qc W X Y Z e hA hB hE q w = record {
    X = X;
    Y = Y;
    Z = Z;
    is = e;
    div_a = hA;
    div_b = hB;
    div_p = hE;
    Q_is = q;
    P_is = by_hyp₂ r 𝟙 w a.P e (auto r (s ∷ W ∷ X ∷ Y ∷ Z ∷ a.Q ∷ a.P ∷ b.Q ∷ b.P ∷ D ∷ []) (search quote depth 20) tt);
  }

  module _ (a b : Ideal r D) (s Qc Pc : R) (π : Product K S a b s Qc Pc) where
    open π use {X, Y, Z}

    abbrev A : R
    A = π.div_a.0

    abbrev B : R
    B = π.div_b.0

    abbrev E : R
    E = π.div_p.0

    abbrev Ca : R
    Ca = a.exact.0

    abbrev Cb : R
    Cb = b.exact.0

    abbrev G : R
    G = a.P ⊗ E ⊕ Ca ⊗ A

    pub s_alive : s ≢ 𝟘
    s_alive = right_alive K A s (λ e. a.alive (π.div_a.1 ∙ e))

    one : X ⊗ A ⊕ Z ⊗ B ⊕ Y ⊗ E ≡ 𝟙
    one = ⊗-cancel K s (X ⊗ A ⊕ Z ⊗ B ⊕ Y ⊗ E) 𝟙 s_alive
        (by_null (null r (⊖ 𝟙) π.is ⊞ null r (⊖ X) π.div_a.1 ⊞ null r (⊖ Z) π.div_b.1 ⊞ null r (⊖ Y) π.div_p.1)
        (auto r (s ∷ A ∷ B ∷ E ∷ X ∷ Y ∷ Z ∷ a.Q ∷ b.Q ∷ a.P ∷ b.P ∷ []) (search quote depth 20) tt))

    cross : a.P ⊗ b.P ⊕ D ≡ s ⊗ G
    cross = cross_term s A E a.Q a.P b.P Ca π.div_p.1 π.div_a.1 a.exact.1

    Gb : G ≡ b.P ⊗ E ⊕ Cb ⊗ B
    Gb = ⊗-cancel K s G (b.P ⊗ E ⊕ Cb ⊗ B) s_alive
        (sym cross ∙ ap (λ x. x ⊕ D) (r.⊗-comm a.P b.P)
        ∙ cross_term s B E b.Q b.P a.P Cb (r.⊕-comm b.P a.P ∙ π.div_p.1) π.div_b.1 b.exact.1)

    mid : Pc ≡ X ⊗ A ⊗ b.P ⊕ Z ⊗ B ⊗ a.P ⊕ Y ⊗ G
    mid = ⊗-cancel K s Pc (X ⊗ A ⊗ b.P ⊕ Z ⊗ B ⊗ a.P ⊕ Y ⊗ G) s_alive (lemma G cross)
      where
        lemma : (g : R) → a.P ⊗ b.P ⊕ D ≡ s ⊗ g → s ⊗ Pc ≡ s ⊗ (X ⊗ A ⊗ b.P ⊕ Z ⊗ B ⊗ a.P ⊕ Y ⊗ g)
        lemma g e = by_null (null r 𝟙 π.P_is ⊞ null r (X ⊗ b.P) π.div_a.1 ⊞ null r (Z ⊗ a.P) π.div_b.1 ⊞ null r Y e)
            (auto r (D ∷ s ∷ A ∷ B ∷ g ∷ X ∷ Y ∷ Z ∷ a.Q ∷ b.Q ∷ a.P ∷ b.P ∷ Pc ∷ []) (search quote depth 20) tt)

    Q_AB : Qc ≡ A ⊗ B
    Q_AB = ⊗-cancel K s Qc (A ⊗ B) s_alive (⊗-cancel K s (s ⊗ Qc) (s ⊗ (A ⊗ B)) s_alive
        (by_hyp₃ r (⊖ 𝟙) π.Q_is b.Q π.div_a.1 (A ⊗ s) π.div_b.1
        (auto r (s ∷ A ∷ B ∷ Qc ∷ a.Q ∷ b.Q ∷ []) (search quote depth 20) tt)))

    in_cong : (q q' P : R) (ζ : O R) → q ≡ q' → In r q P ζ → In r q' P ζ
    in_cong q q' P ζ e h = (h.0, h.1 ∙ ap (λ x. h.0 ⊗ x) e)

    pub product_alive : Qc ≢ 𝟘
    product_alive = right_alive K (s ⊗ s) Qc (λ e. domain K a.Q b.Q a.alive b.alive (π.Q_is ∙ e))

    pub product_exact : Divides r Qc (D ⊕ ⊖ (Pc ⊗ Pc))
    product_exact =
        let h = core_exact r D s A B E G Ca Cb X Y Z a.P b.P Pc one π.div_p.1 cross refl Gb mid in
        (h.0, h.1 ∙ ap (λ x. h.0 ⊗ x) (sym Q_AB))

    pub product_len : len a.Q + len b.Q + 1 ≡ len s + len s + len Qc
    product_len = omega (
      arith,
      K.len_mul a.Q b.Q a.alive b.alive,
      ap len π.Q_is,
      K.len_mul s s s_alive s_alive,
      K.len_mul (s ⊗ s) Qc (domain K s s s_alive s_alive) product_alive,
    )

    -- I(a) I(b) ⊆ s I(c)
    pub product-⊆ : (i j : O R) → In r a.Q a.P i → In r b.Q b.P j
        → (ζ : O R) × In r Qc Pc ζ × (times r D i j ≡ times r D (mk s 𝟘) ζ)
    product-⊆ i j h g =
        let w = core-⊆ r D s A B E G Ca Cb X Y Z a.P b.P Pc one π.div_p.1 cross refl Gb mid i j
        (in_cong a.Q (A ⊗ s) a.P i π.div_a.1 h) (in_cong b.Q (B ⊗ s) b.P j π.div_b.1 g) in
        (w.0, in_cong (A ⊗ B) Qc Pc w.0 (sym Q_AB) w.1, w.2)

    -- a common divisor of s, Pb − Pa and Ca is a unit
    pub product_coprime : (g : R) → Divides r g s → Divides r g (b.P ⊕ ⊖ a.P) → Divides r g Ca → len g ≡ 1
    product_coprime g hs hm hn = S.squarefree g (p ⊗ p ⊕ hn.0 ⊗ (A ⊗ hs.0)) whole
      where
        p : R
        p = (half K).0 ⊗ (E ⊗ hs.0 ⊕ ⊖ hm.0)

        part : a.P ≡ p ⊗ g
        part = by_null (null r (⊖ a.P) (half K).1 ⊞ null r (half K).0 π.div_p.1 ⊞ null r ((half K).0 ⊗ E) hs.1 ⊞ null r (⊖ (half K).0) hm.1)
            (auto r ((half K).0 ∷ g ∷ s ∷ E ∷ hs.0 ∷ hm.0 ∷ a.P ∷ b.P ∷ []) (search quote depth 20) tt)

        whole_of : (q : R) → a.P ≡ q ⊗ g → D ≡ g ⊗ g ⊗ (q ⊗ q ⊕ hn.0 ⊗ (A ⊗ hs.0))
        whole_of q e = by_null (null r 𝟙 a.exact.1 ⊞ null r (a.P ⊕ q ⊗ g) e ⊞ null r a.Q hn.1 ⊞ null r (hn.0 ⊗ g) π.div_a.1 ⊞ null r (hn.0 ⊗ g ⊗ A) hs.1)
            (auto r (D ∷ g ∷ q ∷ s ∷ A ∷ Ca ∷ a.P ∷ a.Q ∷ hs.0 ∷ hn.0 ∷ []) (search quote depth 20) tt)

        whole : D ≡ g ⊗ g ⊗ (p ⊗ p ⊕ hn.0 ⊗ (A ⊗ hs.0))
        whole = whole_of p part

    -- s I(c) ⊆ I(a) I(b)
    pub product-⊇ : (ζ : O R) → In r Qc Pc ζ → Prod (order r D) (I r a) (I r b) (times r D (mk s 𝟘) ζ)
    product-⊇ ζ h =
        let t = coprime_one K s (b.P ⊕ ⊖ a.P) Ca product_coprime in
        let w = core-⊇ r D s A B E G Ca Cb X Y Z a.P b.P Pc one π.div_p.1 cross refl Gb mid t.x t.y t.z t.is ζ
        (in_cong Qc (A ⊗ B) Pc ζ Q_AB h) in
        prod_map (order r D) (In r (A ⊗ s) a.P) (I r a) (In r (B ⊗ s) b.P) (I r b)
        (λ i. in_cong (A ⊗ s) a.Q a.P i (sym π.div_a.1)) (λ j. in_cong (B ⊗ s) b.Q b.P j (sym π.div_b.1)) (times r D (mk s 𝟘) ζ) w

    -- as sets: I(a) I(b) = s I(c)
    product_all : (ζ : O R) → Prod (order r D) (I r a) (I r b) ζ → (η : O R) × In r Qc Pc η × (ζ ≡ times r D (mk s 𝟘) η)
    product_all = prod_fold (order r D) (I r a) (I r b) (λ ζ. (η : O R) × In r Qc Pc η × (ζ ≡ times r D (mk s 𝟘) η))
        (λ x y ζ hx hy e. (
          plus r D hx.0 hy.0,
          in_plus r D Qc Pc hx.0 hy.0 hx.1 hy.1,
          e ∙ ap₂ (plus r D) hx.2 hy.2 ∙ sym (times_dist r D (mk s 𝟘) hx.0 hy.0),
        ))
        (λ i j ζ hi hj e. let w = product-⊆ i j hi hj in (w.0, w.1, e ∙ w.2))

    pub product_to : Sub (order r D) (mk 𝟙 𝟘) (Prod (order r D) (I r a) (I r b)) (mk s 𝟘) (In r Qc Pc)
    product_to ζ h = let w = product_all ζ h in (w.0, w.1, one-⊗ (order r D) ζ ∙ w.2)

    pub product_from : Sub (order r D) (mk s 𝟘) (In r Qc Pc) (mk 𝟙 𝟘) (Prod (order r D) (I r a) (I r b))
    product_from ζ h = (times r D (mk s 𝟘) ζ, product-⊇ ζ h, sym (one-⊗ (order r D) (times r D (mk s 𝟘) ζ)))
