use Rattle.ideal.proofs.Quotients.{less_square_made}
use Rattle.ideal.proofs.curve.Curve.less_square.Goals as goal

pub returns : goal.returns
returns g c = less_square_made c.radicand.ensures c.mul.ensures.exact c.sub.ensures
