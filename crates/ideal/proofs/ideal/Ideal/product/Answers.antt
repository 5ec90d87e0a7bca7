use Rattle.ideal.proofs.Multiplying.{multiplied}
use Rattle.ideal.proofs.ideal.Ideal.product.Goals as goal

pub returns : goal.returns
returns g c = multiplied c.gcd.ensures c.add.ensures c.gcd-2.ensures c.div_rem.ensures.is c.div_rem.ensures.less
    c.div_rem-2.ensures.is c.div_rem-2.ensures.less c.cofactor-c.ensures
    c.mul_mod-ux.ensures c.sub.ensures c.mul_mod-left.ensures c.mul_mod-right.ensures
    c.add-t.ensures c.mul.ensures.exact c.add-p.ensures c.mul-2.ensures.exact c.standard.ensures
