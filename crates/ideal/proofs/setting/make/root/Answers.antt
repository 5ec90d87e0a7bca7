use Rattle.std.proofs.Common.{◌≡◌, ℕ, ◌+◌, ◌-◌, ◌∙◌, subst, arith}
use Rattle.poly.specs.Values.{at}
use Rattle.ideal.proofs.Rooting.{Filled, half_of_one_lem, start, again, finish}
use Rattle.ideal.proofs.setting.make.root.Goals as goal

pub loop-i-init : goal.loop-i-init
loop-i-init g c = λ L A D_is m_is. start L A c.monomial-d.result c.args.half m_is c.monomial-d.ensures.there c.monomial-d.ensures.others

pub loop-i-preserved : goal.loop-i-preserved
loop-i-preserved g c = λ L A D_is m_is.
    let M = g.F.Field.meaning c.args.f.now in
    let i : ℕ = c.loop-i.i in
    let e : i ≡ i - 1 + 1 = omega arith in
    let two : at c.constant.result 0 ≡ M.sum 1 1 = c.constant.ensures.places.0 ∙ c.add.ensures in
    again L A c.args.radicand.now c.loop-i.d c.mul.result c.sub-rest.result c.monomial.result c.add-d.result
    c.coeff.result c.mul-c.result c.top_inverse-half_of_one.result c.args.half (i - 1)
    D_is m_is (subst (λ (n : ℕ). Filled L A c.loop-i.d n) e (c.loop-i.invariant L A D_is m_is))
    c.mul.ensures.exact c.sub-rest.ensures c.coeff.ensures c.mul-c.ensures
    (half_of_one_lem L c.constant.result c.top_inverse-half_of_one.result two c.constant.ensures.places.1 c.top_inverse-half_of_one.ensures)
    c.monomial.ensures.there c.monomial.ensures.others c.add-d.ensures

pub returns : goal.returns
returns g c = λ L A D_is m_is. finish L A c.loop-i.d c.loop-i.i (omega arith) (c.loop-i.invariant L A D_is m_is)
