use Rattle.std.proofs.Common.{◌≡◌, ℕ, ◌<◌, ◌≤◌, length, get_or}
use Rattle.poly.proofs.poly.make.filled.Given as goal

abbrev pub invariant-loop-i : goal.invariant-loop-i
invariant-loop-i g l = record {
  long : length l.coeffs ≡ 128;
  given : (k : ℕ) → k < l.i → goal.C-post g l.coefficient k (get_or l.coeffs k 0);
  past : (k : ℕ) → l.i ≤ k → get_or l.coeffs k 0 ≡ 0;
}
