use Rattle.algebra.specs.Codes.{codes}
use Rattle.algebra.proofs.PolynomialTheorems.{operations, ring_laws}
use Rattle.algebra.proofs.polynomials.polynomials_are_a_ring.Goals as goal

pub returns : goal.returns
returns c = λ M L. (operations (codes L), ring_laws (codes L))
