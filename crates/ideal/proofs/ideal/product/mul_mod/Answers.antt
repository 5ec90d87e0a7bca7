use Rattle.ideal.proofs.Multiplying.{residue_is}
use Rattle.ideal.proofs.ideal.product.mul_mod.Goals as goal

pub returns : goal.returns
returns g c = residue_is c.div_rem.ensures.is c.div_rem.ensures.less c.div_rem-2.ensures.is c.div_rem-2.ensures.less
    c.mul.ensures.exact c.div_rem-3.ensures.is c.div_rem-3.ensures.less
