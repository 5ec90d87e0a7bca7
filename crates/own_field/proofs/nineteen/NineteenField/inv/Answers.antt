use Rattle.std.proofs.Common.{sym, ap, ◌∙◌, arith}
use Rattle.own_field.proofs.Nineteens.{read_at}
use Rattle.field.specs.Primes.{inverse_mod}
use Rattle.field.proofs.Inverses.{inverse_none}
use Rattle.own_field.proofs.nineteen.NineteenField.inv.Goals as goal

pub returns-in_err-checked_sub : goal.returns-in_err-checked_sub
returns-in_err-checked_sub c =
    c.from_residual.ensures ∙ sym (ap (inverse_mod 19) (omega arith) ∙ inverse_none 19)

pub returns : goal.returns
returns c =
    c.copied.ensures ∙ read_at c.in_ok-checked_sub.field-0 c.get.result c.get.ensures.lookup ∙ ap (inverse_mod 19) (omega arith)
