-- Products: what may be reduced modulo B, and the standard form.
use Rattle.std.proofs.Common.{◌≡◌, [], ◌∷◌, ◌∙◌, ap₂}
use Rattle.ring.proofs.Ring.{CommRing, Divides}
use Rattle.ring.proofs.Quote.{quote, auto}
use Rattle.ring.proofs.Hypotheses.{by_hyp₂, by_hyp₃, by_null, null, ◌⊞◌}
use Rattle.ring.proofs.PolyRing.{PolyRing}
use Rattle.algebra.specs.Settings.{Setting}
use Rattle.algebra.specs.Ideals.{Ideal, StandardForm}
use Rattle.algebra.specs.Products.{Product}
use Rattle.algebra.proofs.Product.{product_by}

module _ {R : Type 0} (r : CommRing R) where
  infixl 60 ◌⊕◌
  infixl 70 ◌⊗◌
  infix 80 ⊖◌
  open r use {𝟙, ◌⊕◌, ⊖◌, ◌⊗◌}

  -- a product of remainders
  pub residue : (x y n k s l t j u : R) → x ≡ k ⊗ n ⊕ s → y ≡ l ⊗ n ⊕ t → s ⊗ t ≡ j ⊗ n ⊕ u → x ⊗ y ≡ (k ⊗ y ⊕ s ⊗ l ⊕ j) ⊗ n ⊕ u
  residue x y n k s l t j u hx hy h =
      by_hyp₃ r y hx s hy 𝟙 h (auto r (x ∷ y ∷ n ∷ k ∷ s ∷ l ∷ t ∷ j ∷ u ∷ []) (search quote depth 20) tt)

  -- of T the remainder by B is enough, and of X on the way to it: A·B divides the difference
  pub near : (A B c X X' Y P Δ k j i t u : R) → X ≡ k ⊗ B ⊕ X' → X' ⊗ Δ ≡ j ⊗ B ⊕ t → Y ⊗ c ≡ i ⊗ B ⊕ u
      → P ⊕ A ⊗ (X ⊗ Δ ⊕ Y ⊗ c) ≡ (k ⊗ Δ ⊕ j ⊕ i) ⊗ (A ⊗ B) ⊕ (P ⊕ A ⊗ (t ⊕ u))
  near A B c X X' Y P Δ k j i t u hX ht hu =
      by_hyp₃ r (A ⊗ Δ) hX A ht A hu (auto r (A ∷ B ∷ c ∷ X ∷ X' ∷ Y ∷ P ∷ Δ ∷ k ∷ j ∷ i ∷ t ∷ u ∷ []) (search quote depth 20) tt)

module _ {C R : Type 0} (K : PolyRing C R) (S : Setting K) where
  infixl 60 ◌⊕◌
  infixl 70 ◌⊗◌
  infix 80 ⊖◌
  open K use {r}
  open S use {D}
  open r use {𝟙, ◌⊕◌, ⊖◌, ◌⊗◌}

  -- (A·B, Pa + A·T) with T = X·(Pb − Pa) + Y·C is the product
  pub product_of : (a b : Ideal r D) (s A B c X Y Z : R) → s ≡ X ⊗ a.Q ⊕ Z ⊗ b.Q ⊕ Y ⊗ (a.P ⊕ b.P)
      → a.Q ≡ A ⊗ s → b.Q ≡ B ⊗ s → Divides r s (a.P ⊕ b.P) → D ⊕ ⊖ (a.P ⊗ a.P) ≡ c ⊗ a.Q
      → Product K S a b s (A ⊗ B) (a.P ⊕ A ⊗ (X ⊗ (b.P ⊕ ⊖ a.P) ⊕ Y ⊗ c))
  product_of a b s A B c X Y Z e hA hB hE hc =
      product_by K S a b s (A ⊗ B) (A ⊗ (X ⊗ (b.P ⊕ ⊖ a.P) ⊕ Y ⊗ c)) X Y Z e (A, hA) (B, hB) hE
      (squared a.Q b.Q hA hB) (taken_out a.Q a.P b.P hA hc)
    where
      squared : (Qa Qb : R) → Qa ≡ A ⊗ s → Qb ≡ B ⊗ s → Qa ⊗ Qb ≡ s ⊗ s ⊗ (A ⊗ B)
      squared Qa Qb hA hB = ap₂ ◌⊗◌ hA hB ∙ auto r (s ∷ A ∷ B ∷ []) (search quote depth 20) tt

      taken_out : (Qa Pa Pb : R) → Qa ≡ A ⊗ s → D ⊕ ⊖ (Pa ⊗ Pa) ≡ c ⊗ Qa
          → s ⊗ (A ⊗ (X ⊗ (Pb ⊕ ⊖ Pa) ⊕ Y ⊗ c)) ≡ X ⊗ Qa ⊗ (Pb ⊕ ⊖ Pa) ⊕ Y ⊗ (D ⊕ ⊖ (Pa ⊗ Pa))
      taken_out Qa Pa Pb hA hc = by_hyp₂ r (⊖ (X ⊗ (Pb ⊕ ⊖ Pa) ⊕ Y ⊗ c)) hA (⊖ Y) hc
          (auto r (s ∷ A ∷ c ∷ X ∷ Y ∷ Qa ∷ Pa ∷ Pb ∷ D ∷ []) (search quote depth 20) tt)

  -- P and P' with a multiple of Q between them have the same standard form
  pub form_near : (Q P P' n : R) (b : Ideal r D) → P ≡ n ⊗ Q ⊕ P' → StandardForm K S Q P' b → StandardForm K S Q P b
  form_near Q P P' n b h ν = record {
    c = ν.c;
    e = ν.e;
    q = ν.q ⊕ n ⊗ ν.e;
    inverse = ν.inverse;
    Q_is = ν.Q_is;
    standard = ν.standard;
    P_is = by_null (null r 𝟙 h ⊞ null r 𝟙 ν.P_is ⊞ null r (⊖ (n ⊗ ν.e)) ν.Q_is ⊞ null r (⊖ (n ⊗ Q)) ν.inverse)
        (auto r (Q ∷ P ∷ P' ∷ n ∷ b.Q ∷ b.P ∷ ν.c ∷ ν.e ∷ ν.q ∷ []) (search quote depth 20) tt);
  }
