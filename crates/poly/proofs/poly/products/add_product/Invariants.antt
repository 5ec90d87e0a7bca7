use Rattle.std.proofs.Common.{◌≡◌, ℕ, ◌+◌, ◌<◌, ◌≤◌, get_or}
use Rattle.field.specs.Meaning.{Lawful}
use Rattle.algebra.specs.Codes.{R}
use Rattle.poly.specs.Values.{size, Is}
use Rattle.poly.proofs.Products.{Partial}
use Rattle.poly.proofs.poly.products.add_product.Given as goal

abbrev pub invariant-loop-i : goal.invariant-loop-i
invariant-loop-i g l = ((k : ℕ) → l.i + size l.b ≤ k → get_or l.out k 0 ≡ get_or l.initial.out k 0)
    × ((L : Lawful (g.F.Field.meaning l.f)) (x y : R L) → Is L l.a x → Is L l.b y
    → ((k : ℕ) → get_or l.initial.out k 0 < (g.F.Field.meaning l.f).size) → Partial L x y l.initial.out l.i l.out)
