use Rattle.std.proofs.Common.{rules, ℕ, List, ◌≡◌, get_or, length, ◌-◌, arith, refl, ap, ◌∙◌}
use Rattle.algebra.specs.Codes.{one_low}
use Rattle.poly.specs.Values.{at, size, coefficients}
use Rattle.poly.specs.declared.poly.Poly.{Poly}
use Rattle.poly.proofs.Bridge.{coefficients_at, coefficients_length}
use Rattle.poly.proofs.Monics.{top_inverse_lem}
use Rattle.poly.proofs.poly.Poly.top_inverse.Goals as goal

top_is : (p : Poly) (xs : List ℕ) (x : ℕ) → xs ≡ coefficients p → x ≡ get_or xs (length xs - 1) 0 → x ≡ at p (size p - 1)
top_is p xs x e h = h ∙ ap (λ (l : List ℕ). get_or l (length l - 1) 0) e ∙ coefficients_at p (length (coefficients p) - 1) ∙ ap (λ n. at p (n - 1)) (coefficients_length p)

pub returns-in_default : goal.returns-in_default
returns-in_default g c = λ L h. (one_low L, (λ p. absurd (grind (arith, coefficients_length c.args.self.now))), λ z. refl)

pub returns : goal.returns
returns g c = top_inverse_lem (g.F.Field.meaning c.args.f.now) c.args.self.now c.in-Some.top.now c.inv.result c.unwrap_or.result
    (let o = c.in-Some.ensures.item.3.0 in omega (arith, ap length c.codes.ensures, coefficients_length c.args.self.now))
    (top_is c.args.self.now c.codes.result.now c.in-Some.top.now c.codes.ensures (search rules)) c.inv.ensures c.unwrap_or.ensures
