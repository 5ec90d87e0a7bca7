use Rattle.poly.proofs.Monics.{monic_is}
use Rattle.poly.proofs.poly.Poly.monic.Goals as goal

pub returns : goal.returns
returns g c = monic_is (g.F.Field.meaning c.args.f.now) c.args.self.now c.scale.result c.top_inverse.result c.top_inverse.ensures c.scale.ensures
