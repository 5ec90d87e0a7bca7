-- Sets of elements of a ring: the relation α I ⊆ β J, and the product of two sets, all sums of products. Ideals are such sets.
use mathlib.Core.Path.{◌≡◌, refl, sym, ◌∙◌, ap, ap₂}
use Rattle.std.proofs.Common.{rules}
use mathlib.Core.List.{[], ◌∷◌}
use Rattle.ring.proofs.Ring.{CommRing}
use Rattle.ring.proofs.Quote.{quote, auto}
use Rattle.ring.proofs.Hypotheses.{by_hyp}

-- α I ⊆ β J
abbrev pub Sub : {X : Type 0} (T : CommRing X) → X → (X → Type 0) → X → (X → Type 0) → Type 0
Sub {X} T α I β J = (ζ : X) → I ζ → (η : X) × J η × (T.◌⊗◌ α ζ ≡ T.◌⊗◌ β η)

-- I J: sums of products of an element of I and one of J
pub data Prod {X : Type 0} (T : CommRing X) (I J : X → Type 0) : X → Type 0 where
  single : {ζ : X} (i j : X) → I i → J j → ζ ≡ T.◌⊗◌ i j → Prod T I J ζ
  summed : {ζ : X} (x y : X) → Prod T I J x → Prod T I J y → ζ ≡ T.◌⊕◌ x y → Prod T I J ζ

module _ {X : Type 0} (T : CommRing X) where
  infixl 60 ◌⊕◌
  infixl 70 ◌⊗◌
  open T use {𝟙, ◌⊕◌, ◌⊗◌, ⊗-dist, ⊗-comm, ⊗-assoc}

  ⊗-four : (a b c d : X) → (a ⊗ b) ⊗ (c ⊗ d) ≡ (a ⊗ c) ⊗ (b ⊗ d)
  ⊗-four a b c d = auto T (a ∷ b ∷ c ∷ d ∷ []) (search quote depth 20) tt

  across-⊗ : (α β γ δ : X) {i i' j j' : X} → α ⊗ i ≡ β ⊗ i' → γ ⊗ j ≡ δ ⊗ j' → (α ⊗ γ) ⊗ (i ⊗ j) ≡ (β ⊗ δ) ⊗ (i' ⊗ j')
  across-⊗ α β γ δ {i} {i'} {j} {j'} h g = ⊗-four α γ i j ∙ ap₂ ◌⊗◌ h g ∙ sym (⊗-four β δ i' j')

  across-⊕ : (a b : X) {x y z w : X} → a ⊗ x ≡ b ⊗ z → a ⊗ y ≡ b ⊗ w → a ⊗ (x ⊕ y) ≡ b ⊗ (z ⊕ w)
  across-⊕ a b {x} {y} {z} {w} h g = ⊗-dist a x y ∙ ap₂ ◌⊕◌ h g ∙ sym (⊗-dist b z w)

  pub sub_trans : (α β γ δ : X) (I J L : X → Type 0) → Sub T α I β J → Sub T γ J δ L → Sub T (α ⊗ γ) I (β ⊗ δ) L
  sub_trans = search rules

  -- the same with the factors of the way back
  pub sub_trans' : (α β γ δ : X) (I J L : X → Type 0) → Sub T β J α I → Sub T δ L γ J → Sub T (β ⊗ δ) L (α ⊗ γ) I
  sub_trans' α β γ δ I J L f g ζ h =
      let w = sub_trans δ γ β α L J I g f ζ h in
      (w.0, w.1, ap (λ z. z ⊗ ζ) (⊗-comm β δ) ∙ w.2 ∙ ap (λ z. z ⊗ w.0) (⊗-comm γ α))

  pub sub_prod : (α β γ δ : X) (I I' J J' : X → Type 0) → Sub T α I β I' → Sub T γ J δ J' → Sub T (α ⊗ γ) (Prod T I J) (β ⊗ δ) (Prod T I' J')
  sub_prod α β γ δ I I' J J' f g ζ (single i j hi hj e) =
      let a = f i hi in
      let b = g j hj in
      (a.0 ⊗ b.0, single a.0 b.0 a.1 b.1 refl, ap (λ x. (α ⊗ γ) ⊗ x) e ∙ across-⊗ α β γ δ a.2 b.2)
  sub_prod α β γ δ I I' J J' f g ζ (summed x y hx hy e) =
      let a = sub_prod α β γ δ I I' J J' f g x hx in
      let b = sub_prod α β γ δ I I' J J' f g y hy in
      (a.0 ⊕ b.0, summed a.0 b.0 a.1 b.1 refl, ap (λ z. (α ⊗ γ) ⊗ z) e ∙ across-⊕ (α ⊗ γ) (β ⊗ δ) a.2 b.2)

  pub prod_map : (I I' J J' : X → Type 0) → ((ζ : X) → I ζ → I' ζ) → ((ζ : X) → J ζ → J' ζ) → (ζ : X) → Prod T I J ζ → Prod T I' J' ζ
  prod_map I I' J J' f g ζ (single i j hi hj e) = single i j (f i hi) (g j hj) e
  prod_map I I' J J' f g ζ (summed x y hx hy e) = summed x y (prod_map I I' J J' f g x hx) (prod_map I I' J J' f g y hy) e

  pub prod_comm : (I J : X → Type 0) (ζ : X) → Prod T I J ζ → Prod T J I ζ
  prod_comm I J ζ (single i j hi hj e) = single j i hj hi (e ∙ ⊗-comm i j)
  prod_comm I J ζ (summed x y hx hy e) = summed x y (prod_comm I J x hx) (prod_comm I J y hy) e

  -- a product is in any set that has the products of elements and their sums
  pub prod_fold : (I J L : X → Type 0) → ((x y ζ : X) → L x → L y → ζ ≡ x ⊕ y → L ζ) → ((i j ζ : X) → I i → J j → ζ ≡ i ⊗ j → L ζ)
      → (ζ : X) → Prod T I J ζ → L ζ
  prod_fold I J L p f ζ (single i j hi hj e) = f i j ζ hi hj e
  prod_fold I J L p f ζ (summed x y hx hy e) = p x y ζ (prod_fold I J L p f x hx) (prod_fold I J L p f y hy) e

  prod_by : (I J L : X → Type 0) (l : X) → L l → (x ζ : X) → Prod T I J x → ζ ≡ x ⊗ l → Prod T I (Prod T J L) ζ
  prod_by I J L l hl x ζ (single i j hi hj e) q = single i (j ⊗ l) hi (single j l hj hl refl) (q ∙ ap (λ z. z ⊗ l) e ∙ ⊗-assoc i j l)
  prod_by I J L l hl x ζ (summed y z hy hz e) q = summed (y ⊗ l) (z ⊗ l) (prod_by I J L l hl y (y ⊗ l) hy refl) (prod_by I J L l hl z (z ⊗ l) hz refl)
      (q ∙ by_hyp T l e (auto T (x ∷ y ∷ z ∷ l ∷ []) (search quote depth 20) tt))

  pub prod_assoc : (I J L : X → Type 0) (ζ : X) → Prod T (Prod T I J) L ζ → Prod T I (Prod T J L) ζ
  prod_assoc I J L = prod_fold (Prod T I J) L (Prod T I (Prod T J L)) (λ x y ζ hx hy e. summed x y hx hy e) (λ x l ζ hx hl e. prod_by I J L l hl x ζ hx e)

  pub prod_assoc⁻¹ : (I J L : X → Type 0) (ζ : X) → Prod T I (Prod T J L) ζ → Prod T (Prod T I J) L ζ
  prod_assoc⁻¹ I J L ζ h =
      prod_comm L (Prod T I J) ζ (prod_map L L (Prod T J I) (Prod T I J) (λ x y. y) (prod_comm J I) ζ
      (prod_assoc L J I ζ (prod_map (Prod T J L) (Prod T L J) I I (prod_comm J L) (λ x y. y) ζ (prod_comm I (Prod T J L) ζ h))))

  -- multiples
  pub prod_times : (I J : X → Type 0) → ((ω j : X) → J j → J (ω ⊗ j)) → (ω ζ : X) → Prod T I J ζ → Prod T I J (ω ⊗ ζ)
  prod_times I J c ω ζ (single i j hi hj e) = single i (ω ⊗ j) hi (c ω j hj) (by_hyp T ω e (auto T (ω ∷ ζ ∷ i ∷ j ∷ []) (search quote depth 20) tt))
  prod_times I J c ω ζ (summed x y hx hy e) = summed (ω ⊗ x) (ω ⊗ y) (prod_times I J c ω x hx) (prod_times I J c ω y hy) (ap (λ z. ω ⊗ z) e ∙ ⊗-dist ω x y)
