-- Fields: a commutative ring with a test for zero and inverses, in which 1 + 1 is not 0.
use mathlib.Core.Path.{◌≡◌, sym, ◌∙◌, ap}
use mathlib.Core.Logic.{◌≢◌}
use Rattle.ring.proofs.Ring.{CommRing, ⊗-zero}

pub record Field (C : Type 0) : Type 0 where
  pub ring : CommRing C
  pub zero? : (a : C) → Dec (a ≡ ring.𝟘)
  pub inv : C → C
  pub ⊗-inv : (a : C) → a ≢ ring.𝟘 → ring.◌⊗◌ a (inv a) ≡ ring.𝟙
  pub one : ring.𝟙 ≢ ring.𝟘
  pub two : ring.◌⊕◌ ring.𝟙 ring.𝟙 ≢ ring.𝟘

module _ {C : Type 0} (F : Field C) where
  infixl 60 ◌⊕◌
  infixl 70 ◌⊗◌
  infix 80 ⊖◌
  open F.ring use {𝟘, 𝟙, ◌⊕◌, ⊖◌, ◌⊗◌, ⊗-assoc, ⊗-comm, ⊗-one}

  -- no zero divisors
  pub domain : (a b : C) → a ≢ 𝟘 → b ≢ 𝟘 → a ⊗ b ≢ 𝟘
  domain a b h k e = k (sym (⊗-one b) ∙ ap (λ x. b ⊗ x) (sym (F.⊗-inv a h))
      ∙ sym (⊗-assoc b a (F.inv a)) ∙ ap (λ x. x ⊗ F.inv a) (⊗-comm b a ∙ e) ∙ ⊗-comm 𝟘 (F.inv a) ∙ ⊗-zero F.ring (F.inv a))

-- a field from inverses that are given for the elements that are not zero alone
module _ {C : Type 0} (R : CommRing C) (zero? : (a : C) → Dec (a ≡ R.𝟘))
    (inverse : (a : C) → a ≢ R.𝟘 → (b : C) × (R.◌⊗◌ a b ≡ R.𝟙)) where
  abbrev pub inv_d : (a : C) → Dec (a ≡ R.𝟘) → C
  inv_d a (yes e) = R.𝟘
  inv_d a (no h) = (inverse a h).0

  pub inv_d_is : (a : C) (d : Dec (a ≡ R.𝟘)) → a ≢ R.𝟘 → R.◌⊗◌ a (inv_d a d) ≡ R.𝟙
  inv_d_is a (yes e) h = absurd (h e)
  inv_d_is a (no g) h = (inverse a g).1
