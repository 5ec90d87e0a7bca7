use Rattle.std.proofs.Common.{◌≡◌, ℕ, ◌+◌, ◌<◌, ◌≤◌, length, get_or}
use Rattle.field.specs.Meaning.{Lawful}
use Rattle.algebra.specs.Codes.{R}
use Rattle.poly.specs.Values.{Is}
use Rattle.poly.proofs.Quotients.{Partly}
use Rattle.poly.proofs.poly.Poly.div_rem.Given as goal

abbrev pub invariant-loop-i : goal.invariant-loop-i
invariant-loop-i g l = record {
  quotient_long : length l.quotient ≡ 128;
  rest_long : length l.rest ≡ 128;
  to_come : (k : ℕ) → k < l.i → get_or l.quotient k 0 ≡ 0;
  quotient_past : (k : ℕ) → l.digits ≤ k → get_or l.quotient k 0 ≡ 0;
  rest_past : (k : ℕ) → l.i + l.m ≤ k → get_or l.rest k 0 ≡ 0;
  partly : (L : Lawful (g.F.Field.meaning l.f)) (x y : R L) → Is L l.fn.self x → Is L l.divisor y → Partly L x y l.quotient l.rest;
}
