use Rattle.std.proofs.Common.{rules, ℕ, ◌-◌, ◌≤◌, ◌≢◌, List, length, get_or, sym, refl, ap, ◌∙◌, subst, arith, length-set, get_or-set_other}
use Rattle.std.specs.List.{IsLastAndRest}
use Rattle.poly.specs.Values.{size, coefficients}
use Rattle.poly.proofs.Zeros.{zeros, set_gone}
use Rattle.poly.proofs.Bridge.{size_le, coefficients_length}
use Rattle.poly.proofs.Quotients.{Partly, start, step, stuck, finish, whole_rest}
use Rattle.poly.proofs.poly.Poly.div_rem.Goals as goal

pub returns-in_default-clause-is : goal.returns-in_default-clause-is
returns-in_default-clause-is g c = λ L x y hx hy. whole_rest L x y c.args.self.now c.zero.result hx (c.zero.ensures.is _ L)

pub returns-in_default-inv-clause-is : goal.returns-in_default-inv-clause-is
returns-in_default-inv-clause-is g c = λ L x y hx hy. absurd (stuck L x y c.args.divisor.now hy c.in-Some.top.now c.in-Some.lower.now (search rules) (search rules))

pub loop-i-init : goal.loop-i-init
loop-i-init g c = record {
  quotient_long = refl;
  rest_long = c.args.self.now.long;
  to_come = λ k _. zeros 128 k;
  quotient_past = λ k _. zeros 128 k;
  rest_past = λ k h. c.args.self.now.past k (omega arith);
  partly = λ L x y hx hy. start L x y c.args.self.now hx;
}

pub loop-i-preserved : goal.loop-i-preserved
loop-i-preserved g c = record {
  quotient_long = simp length-set c.loop-i.invariant.quotient_long;
  rest_long = simp length-set c.add_row.array_long;
  to_come = λ k h. let ne : k ≢ c.loop-i.i - 1 = omega arith in rw get_or-set_other (c.loop-i.invariant.to_come k (omega arith));
  quotient_past = λ k h. let ne : k ≢ c.loop-i.i - 1 = omega arith in rw get_or-set_other (c.loop-i.invariant.quotient_past k h);
  rest_past = set_gone c.add_row.new.out _ (λ k h. c.add_row.ensures.after k (omega arith) ∙ c.loop-i.invariant.rest_past k (omega arith));
  partly = λ L x y hx hy. step L x y c.args.divisor.now hy c.in-Some.top.now c.in-Some-inv.inverse (c.loop-i.i - 1) c.mul-digit.result c.neg.result c.loop-i.quotient c.loop-i.rest c.in-Some.lower.now c.add_row.new.out
      (search rules) (search rules) (c.loop-i.invariant.partly L x y hx hy) c.mul-digit.ensures c.neg.ensures
      (omega arith) (c.loop-i.invariant.to_come (c.loop-i.i - 1) (omega arith)) c.add_row.ensures;
}

pub returns-clause-less : goal.returns-clause-less
returns-clause-less g c = λ h.
    let e : IsLastAndRest (coefficients c.args.divisor.now) c.in-Some.top.now c.in-Some.lower.now = search rules in
    let l : size c.normal-2.result ≤ length c.in-Some.lower.now = size_le c.normal-2.result (length c.in-Some.lower.now)
    (λ k j. ap (λ xs. get_or xs k 0) c.normal-2.ensures ∙ c.loop-i.invariant.rest_past k (omega arith)) in
    omega (arith, e.1, coefficients_length c.args.divisor.now)

pub returns-clause-is : goal.returns-clause-is
returns-clause-is g c = λ L x y hx hy. finish L x y c.normal.result c.normal-2.result
    (subst (λ (l : List ℕ). Partly L x y l c.normal-2.result.raw.coeffs) (sym c.normal.ensures)
    (subst (λ (l : List ℕ). Partly L x y c.loop-i.quotient l) (sym c.normal-2.ensures) (c.loop-i.invariant.partly L x y hx hy)))
