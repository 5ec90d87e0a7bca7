-- The signs of the polynomials' ring.
use Rattle.ring.proofs.Field.{Field}
use Rattle.ring.proofs.Poly.{Poly, add_p, neg_p, mul_p}

infixl 60 ◌⊕◌
infixl 70 ◌⊗◌
infix 80 ⊖◌
abbrev pub ◌⊕◌ : {C : Type 0} {F : Field C} → Poly F → Poly F → Poly F
◌⊕◌ {F = F} x y = add_p F x y

abbrev pub ◌⊗◌ : {C : Type 0} {F : Field C} → Poly F → Poly F → Poly F
◌⊗◌ {F = F} x y = mul_p F x y

abbrev pub ⊖◌ : {C : Type 0} {F : Field C} → Poly F → Poly F
⊖◌ {F = F} x = neg_p F x
