-- Quotients that leave no remainder.
use Rattle.std.proofs.Common.{◌≡◌, ◌<◌, sym, subst}
use Rattle.field.specs.Meaning.{Meaning}
use Rattle.poly.specs.Values.{size, Is}
use Rattle.poly.specs.Rules.{Difference, Product, Division}
use Rattle.poly.specs.declared.poly.Poly.{Poly}
use Rattle.ideal.specs.Parts.{LessSquare, Cofactor}
use Rattle.ideal.specs.declared.setting.Setting.{Setting}
use Rattle.ideal.proofs.Records.{difference_is, product_is, division_is, exact_is}

pub less_square_made : {M : Meaning} {s : Setting} {p radicand square rest : Poly}
    → radicand ≡ s.radicand → Product M p p square → Difference M radicand square rest → LessSquare M s p rest
less_square_made e square rest L A x hs hp fits =
    let hD = subst (λ (v : Poly). Is L v A.D) (sym e) hs.D_is in
    difference_is L rest hD (product_is L square hp hp fits)

pub cofactor_made : {M : Meaning} {s : Setting} {p q rest c r : Poly}
    → LessSquare M s p rest → Division M rest q c r → (0 < size q → size r < size q) → Cofactor M s p q c
cofactor_made rest division less L A x y hs hp hq fits alive e =
    exact_is L (division_is L division less (rest L A x hs hp fits) hq alive) e alive
