use Rattle.std.proofs.Common.{sym, ap, ◌∙◌, arith}
use Rattle.field.specs.Primes.{opposite_mod}
use Rattle.field.proofs.PrimeLaws.{opposite_out, opposite_zero, opposite_some}
use Rattle.own_field.proofs.nineteen.NineteenField.neg.Goals as goal
use Rattle.own_field.proofs.nineteen.NineteenField.neg.Goals.{then-a-eq0-via-then-a-eq0, then-a-eq0-via-else-a-eq0+then-a-ge19}

pub returns-then-a-eq0 : goal.returns-then-a-eq0
returns-then-a-eq0 c =
    elim c.then-a-eq0.branch [
      | then-a-eq0-via-then-a-eq0 w ↦ sym (ap (opposite_mod 19) w.if-a-eq0.true ∙ opposite_zero 19 (omega arith))
      | then-a-eq0-via-else-a-eq0+then-a-ge19 w ↦ sym (opposite_out _ _ (omega arith))
    ]

pub returns : goal.returns
returns c = sym (opposite_some _ _ (omega arith) (omega arith))
