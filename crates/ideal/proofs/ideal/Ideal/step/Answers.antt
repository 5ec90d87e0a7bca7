use Rattle.ideal.proofs.Stepping.{stepped}
use Rattle.ideal.proofs.ideal.Ideal.step.Goals as goal

pub returns : goal.returns
returns g c = stepped c.root-root.ensures c.add.ensures c.div_rem.ensures.is c.div_rem.ensures.less c.sub-p.ensures c.cofactor-q.ensures
    c.add-2.ensures c.len-far.ensures.0 c.standard.ensures
