use Rattle.field.specs.Meaning.{Lawful}
use Rattle.algebra.specs.Codes.{R}
use Rattle.poly.specs.Values.{Is, size}
use Rattle.poly.proofs.Euclid.{Euclid}
use Rattle.poly.proofs.poly.Poly.gcd.Given as goal

abbrev pub invariant-loop-r1 : goal.invariant-loop-r1
invariant-loop-r1 g l = (L : Lawful (g.F.Field.meaning l.f)) (x y : R L) → Is L l.self x → Is L l.other y
    → Euclid L x y (size l.self) (size l.other) l.r0 l.r1 l.x0 l.y0 l.x1 l.y1

abbrev pub decreases-loop-r1 : goal.decreases-loop-r1
decreases-loop-r1 g l = size l.r1
