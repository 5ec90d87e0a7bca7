use Rattle.ideal.proofs.Quotients.{cofactor_made}
use Rattle.ideal.proofs.curve.Curve.cofactor.Goals as goal

pub returns : goal.returns
returns g c = cofactor_made c.less_square.ensures c.div_rem.ensures.is c.div_rem.ensures.less
