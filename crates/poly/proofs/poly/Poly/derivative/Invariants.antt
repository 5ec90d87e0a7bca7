use Rattle.std.proofs.Common.{◌≡◌, ℕ, suc, ◌<◌, ◌≤◌, length, get_or}
use Rattle.poly.proofs.Derivatives.{times}
use Rattle.poly.proofs.poly.Poly.derivative.Given as goal

abbrev pub invariant-loop-k : goal.invariant-loop-k
invariant-loop-k g l = record {
  long : length l.coeffs ≡ 128;
  factor : l.factor ≡ times (g.F.Field.meaning l.f) l.k;
  below : (j : ℕ) → j < l.k → get_or l.coeffs j 0 ≡ (g.F.Field.meaning l.f).product (times (g.F.Field.meaning l.f) (suc j)) (get_or l.higher j 0);
  past : (j : ℕ) → l.k ≤ j → get_or l.coeffs j 0 ≡ 0;
}
