use Rattle.algebra.specs.Codes.{K}
use Rattle.algebra.proofs.IdealTheorems.{quadratic_ring}
use Rattle.algebra.proofs.ideals.quadratic_ring_has_norms.Goals as goal

pub returns : goal.returns
returns c = λ M L. quadratic_ring (K L)
