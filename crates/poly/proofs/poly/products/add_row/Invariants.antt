use Rattle.std.proofs.Common.{◌≡◌, ℕ, ◌+◌, ◌<◌, ◌≤◌, get_or}
use Rattle.poly.proofs.poly.products.add_row.Given as goal

abbrev pub invariant-loop-k : goal.invariant-loop-k
invariant-loop-k g l = record {
  before : (k : ℕ) → k < l.i → get_or l.out k 0 ≡ get_or l.initial.out k 0;
  inside : (k : ℕ) → k < l.k → get_or l.out (l.i + k) 0 ≡ (g.F.Field.meaning l.f).sum (get_or l.initial.out (l.i + k) 0) ((g.F.Field.meaning l.f).product l.c (get_or l.row k 0));
  after : (k : ℕ) → l.i + l.k ≤ k → get_or l.out k 0 ≡ get_or l.initial.out k 0;
}
