use Rattle.std.proofs.Common.{ℕ, List, replicate, sym, subst, arith}
use Rattle.poly.specs.Rows.{Added}
use Rattle.poly.specs.Rules.{LowProduct}
use Rattle.poly.proofs.Zeros.{zeros}
use Rattle.poly.proofs.Products.{added_past, low_product, exact_product}
use Rattle.poly.proofs.poly.Poly.mul.Goals as goal

pub normal-requires : goal.normal-requires
normal-requires g c = record {
  within = omega arith;
  ended = λ k h. added_past c.add_product.ensures c.add_product.array_long k (λ g. omega arith) (zeros 128 k);
}

pub returns : goal.returns
returns g c = record { low = low; exact = exact_product (g.F.Field.meaning c.args.f.now) c.args.self.now c.args.other.now c.normal.result low }
  where
    low : LowProduct (g.F.Field.meaning c.args.f.now) c.args.self.now c.args.other.now c.normal.result
    low = low_product (g.F.Field.meaning c.args.f.now) c.args.self.now c.args.other.now c.normal.result
        (subst (λ (l : List ℕ). Added (g.F.Field.meaning c.args.f.now) (replicate 128 0) c.args.self.now c.args.other.now l) (sym c.normal.ensures) c.add_product.ensures)
