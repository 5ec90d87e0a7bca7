use Rattle.ideal.proofs.Standards.{standardized}
use Rattle.ideal.proofs.ideal.Ideal.standard.Goals as goal

pub returns : goal.returns
returns g c = standardized c.args.q.now c.args.p.now c.div_rem.result.0 _ c.monic-q.ensures c.div_rem.ensures.is c.div_rem.ensures.less
