use Rattle.std.proofs.Common.{◌≡◌, ℕ, suc, ◌+◌, ◌<◌, ◌≢◌, length, get_or, refl, ap, ◌∙◌, add-one, List, sym, arith, length-set, get_or-set_other, get_or-set_same, below_more}
use Rattle.std.specs.List.{IsFirstAndRest}
use Rattle.std.proofs.lemmas.Grind.{common_steps}
use Rattle.field.specs.Meaning.{Meaning}
use Rattle.poly.specs.Values.{at, size, coefficients}
use Rattle.poly.specs.declared.poly.Poly.{Poly}
use Rattle.poly.proofs.Bridge.{coefficients_at, coefficients_length}
use Rattle.poly.proofs.Zeros.{zeros}
use Rattle.poly.proofs.Derivatives.{times, derivative_is}
use Rattle.poly.proofs.poly.Poly.derivative.Goals as goal

-- the coefficients but the lowest, which are those of the derivative before each is taken as often as its place says
higher : (p : Poly) (codes : List ℕ) (x : ℕ) (rest : List ℕ) → codes ≡ coefficients p → IsFirstAndRest codes x rest
    → (size p ≡ length rest + 1) × ((k : ℕ) → get_or rest k 0 ≡ at p (suc k))
higher p codes x rest e f = (
  omega (arith, f.1, ap length e, coefficients_length p),
  λ k. sym (ap (λ xs. get_or xs (suc k) 0) f.0) ∙ ap (λ xs. get_or xs (suc k) 0) e ∙ coefficients_at p (suc k),
)

stands : (m : Meaning) (p r : Poly) (xs rest : List ℕ) (k : ℕ) → r.raw.coeffs ≡ xs → get_or xs k 0 ≡ m.product (times m (suc k)) (get_or rest k 0)
    → get_or rest k 0 ≡ at p (suc k) → at r k ≡ m.product (times m (suc k)) (at p (suc k))
stands m p r xs rest k e f h = ap (λ l. get_or l k 0) e ∙ f ∙ ap (m.product (times m (suc k))) h

pub returns-in_default : goal.returns-in_default
returns-in_default g c = derivative_is (g.F.Field.meaning c.args.f.now) c.args.self.now c.zero.result 0 (grind (arith, coefficients_length c.args.self.now)) (λ k h. absurd (omega arith)) (λ k h. c.zero.ensures.places k)

pub loop-k-init : goal.loop-k-init
unfolding times
loop-k-init g c = record { long = refl; factor = refl; below = λ j h. absurd (omega arith); past = λ j h. zeros 128 j }

pub loop-k-preserved : goal.loop-k-preserved
unfolding times
loop-k-preserved g c =
    let m = g.F.Field.meaning c.args.f.now in
    let n_is : c.add-factor.result ≡ times m (suc c.loop-k.k) = c.add-factor.ensures ∙ ap (λ (z : ℕ). m.sum 1 z) c.loop-k.invariant.factor in
    let h = higher c.args.self.now c.codes.result.now _ c.in-Some.higher.now c.codes.ensures c.in-Some.ensures.cases in
    let lt : c.loop-k.k < length c.loop-k.coeffs = omega (arith, h.0, c.args.self.now.short) in
    record {
      long = simp length-set c.loop-k.invariant.long;
      factor = rw add-one n_is;
      below = below_more _ _ (λ k h. let ne : k ≢ c.loop-k.k = omega arith in rw get_or-set_other (c.loop-k.invariant.below k h))
          (rw get_or-set_same (grind (arith, common_steps, n_is)));
      past = λ j h. let ne : j ≢ c.loop-k.k = omega arith in rw get_or-set_other (c.loop-k.invariant.past j (omega arith));
    }

pub returns : goal.returns
returns g c =
    let m = g.F.Field.meaning c.args.f.now in
    let h = higher c.args.self.now c.codes.result.now _ c.in-Some.higher.now c.codes.ensures c.in-Some.ensures.cases in
    derivative_is m c.args.self.now c.normal.result (length c.in-Some.higher.now) (omega (arith, h.0))
    (λ k l. stands m c.args.self.now c.normal.result c.loop-k.coeffs c.in-Some.higher.now k c.normal.ensures (c.loop-k.invariant.below k (omega arith)) (h.1 k))
    (λ k l. ap (λ xs. get_or xs k 0) c.normal.ensures ∙ c.loop-k.invariant.past k (omega arith))
