use Rattle.std.proofs.Common.{◌≡◌, ℕ, get_or, ap, ◌∙◌, subst, arith}
use Rattle.place.specs.Digits.{Through, stays, steps}
use Rattle.place.proofs.Numbers.{up_to, number_more, digit_more, digit_all}
use Rattle.place.proofs.digits.fold_digits.Given as given
use Rattle.place.proofs.digits.fold_digits.Goals as goal

pub loop-byte-init : goal.loop-byte-init
loop-byte-init g c = stays

pub loop-k-preserved : goal.loop-k-preserved
loop-k-preserved g c = subst (λ (n : ℕ). Through (given.S-post g c.args.step) c.args.start n c.step-found.result)
    (digit_more _ (get_or c.args.bytes.now c.loop-byte.byte-index 0) c.loop-k.k c.digit.result c.digit.ensures (omega arith) (omega arith))
    (steps c.loop-k.invariant (omega arith) c.step-found.ensures)

pub loop-byte-preserved : goal.loop-byte-preserved
loop-byte-preserved g c =
    let byte : ℕ = get_or c.args.bytes.now c.loop-byte.byte-index 0 in
    let e : c.loop-k.k ≡ 0 = omega arith in
    subst (λ (n : ℕ). Through (given.S-post g c.args.step) c.args.start n c.loop-k.found)
    (ap (up_to _ byte) e ∙ digit_all _ byte ∙ number_more c.args.bytes.now c.loop-byte.byte-index (omega arith)) c.loop-k.invariant
