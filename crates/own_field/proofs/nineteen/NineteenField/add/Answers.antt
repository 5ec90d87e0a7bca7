use Rattle.std.proofs.Common.{sym, arith}
use Rattle.field.proofs.PrimeLaws.{sum_out, sum_below, sum_above}
use Rattle.own_field.proofs.nineteen.NineteenField.add.Goals as goal
use Rattle.own_field.proofs.nineteen.NineteenField.add.Goals.{then-a-ge19-via-then-a-ge19, then-a-ge19-via-else-a-ge19+then-b-ge19}

pub returns-then-a-ge19 : goal.returns-then-a-ge19
returns-then-a-ge19 c =
    elim c.then-a-ge19.branch [
      | then-a-ge19-via-then-a-ge19 w ↦ sym ((sum_out _ _ _).0 (omega arith))
      | then-a-ge19-via-else-a-ge19+then-b-ge19 w ↦ sym ((sum_out _ _ _).1 (omega arith))
    ]

pub returns-then-sum-lt19 : goal.returns-then-sum-lt19
returns-then-sum-lt19 c = sym (sum_below _ _ _ (omega arith) (omega arith) (omega arith))

pub returns-else-sum-lt19 : goal.returns-else-sum-lt19
returns-else-sum-lt19 c = sym (sum_above _ _ _ (omega arith) (omega arith) (omega arith))
