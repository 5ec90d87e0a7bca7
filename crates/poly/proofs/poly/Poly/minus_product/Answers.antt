use Rattle.std.proofs.Common.{ℕ, List, sym, subst, arith}
use Rattle.std.proofs.lemmas.Grind.{common_steps}
use Rattle.poly.specs.Rows.{Added}
use Rattle.poly.specs.Rules.{LowLess}
use Rattle.poly.proofs.Products.{added_past, low_less, exact_less}
use Rattle.poly.proofs.poly.Poly.minus_product.Goals as goal

pub normal-requires : goal.normal-requires
normal-requires g c = record {
  within = omega arith;
  ended = λ k h. added_past c.add_product.ensures c.add_product.array_long k (λ g. omega arith) (grind (arith, common_steps));
}

pub returns : goal.returns
returns g c = record { low = low; exact = exact_less (g.F.Field.meaning c.args.f.now) c.args.self.now c.args.p.now c.args.b.now c.normal.result low }
  where
    low : LowLess (g.F.Field.meaning c.args.f.now) c.args.self.now c.args.p.now c.args.b.now c.normal.result
    low = low_less (g.F.Field.meaning c.args.f.now) c.args.self.now c.args.p.now c.neg-opposite.result c.args.b.now c.normal.result
        c.neg-opposite.ensures
        (subst (λ (l : List ℕ). Added (g.F.Field.meaning c.args.f.now) c.args.self.now.raw.coeffs c.neg-opposite.result c.args.b.now l) (sym c.normal.ensures) c.add_product.ensures)
