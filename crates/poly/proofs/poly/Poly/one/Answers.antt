use Rattle.std.proofs.Common.{subst}
use Rattle.algebra.specs.Codes.{R, one_low}
use Rattle.poly.specs.Values.{Is}
use Rattle.poly.proofs.Monics.{one_is}
use Rattle.poly.proofs.poly.Poly.one.Goals as goal

pub returns : goal.returns
returns c = λ m L. subst (λ (v : R L). Is L c.constant.result v) (one_is L) (c.constant.ensures.is m L (one_low L))
