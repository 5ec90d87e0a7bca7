-- The product of an ideal (Q, P) with its conjugate (Q, −P) is Q times all of O. So α I(a) = β I(b) fixes how the degrees of the
-- norms of α and β differ.
use mathlib.Core.Path.{◌≡◌, sym, ◌∙◌, ap, ap₂}
use mathlib.Core.Logic.{◌≢◌}
use mathlib.Core.List.{[], ◌∷◌}
use Prim.Native.Nat.{◌+◌}
use native.Mathlib.Omega.{arith}
use Rattle.ring.proofs.Ring.{one-⊗, neg_neg, Divides}
use Rattle.ring.proofs.Quote.{quote, auto}
use Rattle.ring.proofs.PolyRing.{PolyRing}
use Rattle.ring.proofs.Order.{O, mk, times, order, conj, norm, conj_mul, norm_is}
use Rattle.ring.proofs.Sets.{Sub, Prod, sub_prod}
use Rattle.algebra.proofs.Ideal.{opposite, conj_in, in_conj}
use Rattle.ring.proofs.Lengths.{domain}
use Rattle.ring.proofs.Euclid.{divides_len}
use Rattle.algebra.proofs.Product.{product_to, product-⊇}
use Rattle.algebra.specs.Settings.{Setting}
use Rattle.algebra.specs.Ideals.{Ideal, I}
use Rattle.algebra.specs.Products.{Product}

module _ {C R : Type 0} (K : PolyRing C R) (S : Setting K) where
  infixl 60 ◌⊕◌
  infixl 70 ◌⊗◌
  infix 80 ⊖◌
  open K use {r, len}
  open S use {D}
  open r use {𝟘, 𝟙, ◌⊕◌, ⊖◌, ◌⊗◌}

  pub norm_product : (a : Ideal r D) → Product K S a (opposite r a) a.Q 𝟙 (⊖ a.P)
  norm_product a = record {
    X = 𝟙;
    Y = 𝟘;
    Z = 𝟘;
    is = auto r (a.Q ∷ a.P ∷ []) (search quote depth 20) tt;
    div_a = (𝟙, auto r (a.Q ∷ []) (search quote depth 20) tt);
    div_b = (𝟙, auto r (a.Q ∷ []) (search quote depth 20) tt);
    div_p = (𝟘, auto r (a.Q ∷ a.P ∷ []) (search quote depth 20) tt);
    Q_is = auto r (a.Q ∷ []) (search quote depth 20) tt;
    P_is = auto r (a.Q ∷ a.P ∷ D ∷ []) (search quote depth 20) tt;
  }

  pub norm-⊆ : (a : Ideal r D) (ζ : O R) → Prod (order r D) (I r a) (I r (opposite r a)) ζ → (η : O R) × (ζ ≡ times r D (mk a.Q 𝟘) η)
  norm-⊆ a ζ h = let w = product_to K S a (opposite r a) a.Q 𝟙 (⊖ a.P) (norm_product a) ζ h in (w.0, sym (one-⊗ (order r D) ζ) ∙ w.2)

  pub norm-⊇ : (a : Ideal r D) → Prod (order r D) (I r a) (I r (opposite r a)) (times r D (mk a.Q 𝟘) (mk 𝟙 𝟘))
  norm-⊇ a = product-⊇ K S a (opposite r a) a.Q 𝟙 (⊖ a.P) (norm_product a) (mk 𝟙 𝟘)
      (𝟙 ⊕ ⊖ (𝟘 ⊗ ⊖ a.P), auto r (a.P ∷ []) (search quote depth 20) tt)

  conj_conj : (ζ : O R) → conj r D (conj r D ζ) ≡ ζ
  conj_conj ζ = ap (mk ζ.u) (neg_neg r ζ.v)

  pub sub_conj : (α β : O R) (a b : Ideal r D) → Sub (order r D) α (I r a) β (I r b)
      → Sub (order r D) (conj r D α) (I r (opposite r a)) (conj r D β) (I r (opposite r b))
  sub_conj α β a b f j h =
      let w = f (conj r D j) (in_conj r D a.Q a.P j h) in (
        conj r D w.0,
        conj_in r D b.Q b.P w.0 w.1,
        ap (times r D (conj r D α)) (sym (conj_conj j)) ∙ sym (conj_mul r D α (conj r D j)) ∙ ap (conj r D) w.2 ∙ conj_mul r D β w.0,
      )

  -- α I(a) ⊆ β I(b): N(β) Qb divides N(α) Qa
  pub norm_divides : (α β : O R) (a b : Ideal r D) → Sub (order r D) α (I r a) β (I r b) → Divides r (norm r D β ⊗ b.Q) (norm r D α ⊗ a.Q)
  norm_divides α β a b f =
      let x = sub_prod (order r D) α β (conj r D α) (conj r D β) (I r a) (I r b) (I r (opposite r a)) (I r (opposite r b)) f (sub_conj α β a b f)
      (times r D (mk a.Q 𝟘) (mk 𝟙 𝟘)) (norm-⊇ a) in
      let y = norm-⊆ b x.0 x.1 in (
        y.0.u,
        scalars (norm r D α) a.Q (norm r D β) b.Q y.0
            (ap (λ z. times r D z (times r D (mk a.Q 𝟘) (mk 𝟙 𝟘))) (sym (norm_is r D α)) ∙ x.2 ∙ ap₂ (times r D) (norm_is r D β) y.1),
      )
    where
      scalars : (n q m p : R) (ω : O R)
          → times r D (mk n 𝟘) (times r D (mk q 𝟘) (mk 𝟙 𝟘)) ≡ times r D (mk m 𝟘) (times r D (mk p 𝟘) ω) → n ⊗ q ≡ ω.u ⊗ (m ⊗ p)
      scalars n q m p ω h =
          auto r (D ∷ n ∷ q ∷ []) (search quote depth 20) tt ∙ ap (λ z. z.u) h
          ∙ auto r (D ∷ m ∷ p ∷ ω.u ∷ ω.v ∷ []) (search quote depth 20) tt

  -- α I(a) = β I(b): the norms have the lengths that the ideals ask for
  pub norm_lens : (α β : O R) (a b : Ideal r D) → norm r D α ≢ 𝟘 → norm r D β ≢ 𝟘
      → Sub (order r D) α (I r a) β (I r b) → Sub (order r D) β (I r b) α (I r a)
      → len (norm r D α) + len a.Q ≡ len (norm r D β) + len b.Q
  norm_lens α β a b hα hβ f g =
      let x = domain K (norm r D α) a.Q hα a.alive in
      let y = domain K (norm r D β) b.Q hβ b.alive in
      omega (
        arith,
        divides_len K (norm r D β ⊗ b.Q) (norm r D α ⊗ a.Q) (norm_divides α β a b f) x,
        divides_len K (norm r D α ⊗ a.Q) (norm r D β ⊗ b.Q) (norm_divides β α b a g) y,
        K.len_mul (norm r D α) a.Q hα a.alive,
        K.len_mul (norm r D β) b.Q hβ b.alive,
      )
