use Rattle.std.proofs.Common.{◌≡◌, take, length, get_or, refl, ap, ◌∙◌, arith}
use Rattle.std.proofs.lemmas.List.{get_or-take, length-take-le}
use Rattle.poly.specs.Values.{size}
use Rattle.poly.proofs.Bridge.{coefficients_at, coefficients_length}
use Rattle.poly.proofs.Products.{start, again, finish}
use Rattle.poly.proofs.poly.products.add_product.Goals as goal

pub loop-i-init : goal.loop-i-init
loop-i-init g c = ((λ k h. refl), λ L x y hx hy low. start L x y c.args.out.now low)

pub loop-i-preserved : goal.loop-i-preserved
loop-i-preserved g c =
    let l : length c.codes.result.now ≡ size c.args.b.now = ap length c.codes.ensures ∙ coefficients_length c.args.b.now in
    let n : length (take c.min-n.result c.codes.result.now) ≡ c.min-n.result = length-take-le c.min-n.result c.codes.result.now (omega arith) in (
      (λ k h. c.add_row.ensures.after k (omega arith) ∙ c.loop-i.invariant.0 k (omega arith)),
      λ L x y hx hy low. again L x y c.args.a.now c.args.b.now hx hy c.args.out.now c.loop-i.out (take c.min-n.result c.codes.result.now) c.add_row.new.out c.loop-i.i _
          (ap (λ xs. get_or xs c.loop-i.i 0) c.codes-c-items.ensures ∙ coefficients_at c.args.a.now c.loop-i.i)
          (λ k h. get_or-take c.min-n.result c.codes.result.now k 0 (omega arith) ∙ ap (λ xs. get_or xs k 0) c.codes.ensures ∙ coefficients_at c.args.b.now k)
          (λ k g h. omega arith) (c.loop-i.invariant.1 L x y hx hy low) c.add_row.ensures,
    )

pub returns : goal.returns
returns g c =
    let l : length c.codes-c-items.result.now ≡ size c.args.a.now = ap length c.codes-c-items.ensures ∙ coefficients_length c.args.a.now in
    record {
      past = λ k h. c.loop-i.invariant.0 k (omega arith);
      grown = λ L x y hx hy low. finish L x y c.args.a.now hx c.args.out.now c.loop-i.out c.loop-i.i (omega arith) (c.loop-i.invariant.1 L x y hx hy low);
    }
