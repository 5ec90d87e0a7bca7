use Rattle.std.proofs.Common.{sym, refl, ◌∙◌, arith}
use Rattle.std.proofs.lemmas.Bool.Decides.{nat_tests, Decides-eqb}
use Rattle.poly.specs.Values.{size}
use Rattle.poly.proofs.Euclid.{start, again, finish}
use Rattle.poly.proofs.poly.Poly.gcd.Goals as goal

pub loop-r1-init : goal.loop-r1-init
loop-r1-init g c = λ L x y hx hy. start L x y _ _ hx hy refl refl
    (c.one-x0.ensures _ L) (c.zero-y0.ensures.is _ L) (c.zero-x1.ensures.is _ L) (c.one-y1.ensures _ L)

pub loop-r1-preserved : goal.loop-r1-preserved
loop-r1-preserved g c = λ L x y hx hy. again L x y _ _ (c.loop-r1.invariant L x y hx hy) c.args.self.now.short c.args.other.now.short
    (grind (arith, nat_tests)) c.div_rem.ensures.less c.div_rem.ensures.is
    c.minus_product.ensures.exact c.minus_product-in-loop-r1.ensures.exact

pub returns : goal.returns
returns g c = λ L x y hx hy. finish L x y _ _ (c.loop-r1.invariant L x y hx hy) ((Decides-eqb (size c.loop-r1.r1) 0).0 (sym c.is_zero.ensures ∙ c.loop-r1-test.false))
    c.top_inverse-c.ensures c.scale.ensures c.scale-2.ensures c.scale-3.ensures
