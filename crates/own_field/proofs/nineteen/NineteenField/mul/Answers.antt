use Rattle.std.proofs.Common.{sym, arith}
use Rattle.field.proofs.PrimeLaws.{product_in, product_out}
use Rattle.own_field.proofs.nineteen.NineteenField.mul.Goals as goal
use Rattle.own_field.proofs.nineteen.NineteenField.mul.Goals.{then-a-ge19-via-then-a-ge19, then-a-ge19-via-else-a-ge19+then-b-ge19}

pub returns-then-a-ge19 : goal.returns-then-a-ge19
returns-then-a-ge19 c =
    elim c.then-a-ge19.branch [
      | then-a-ge19-via-then-a-ge19 w ↦ sym ((product_out _ _ _).0 (omega arith))
      | then-a-ge19-via-else-a-ge19+then-b-ge19 w ↦ sym ((product_out _ _ _).1 (omega arith))
    ]

pub returns : goal.returns
returns c = sym (product_in _ _ _ (omega arith) (omega arith))
