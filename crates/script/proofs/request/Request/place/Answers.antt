use Rattle.std.proofs.Common.{ℕ, List, subst}
use Rattle.place.specs.Results.{Repeated}
use Rattle.script.proofs.Asking.{found, finds, adds, repeats}
use Rattle.script.proofs.request.Request.place.Goals as goal

pub returns-in-Find : goal.returns-in-Find
returns-in-Find g c = rw c.in-Find.is (finds c.in-Find.n (found c.in-Find.n _ c.as_slice.ensures c.find.ensures))

pub returns-in-Add : goal.returns-in-Add
returns-in-Add g c =
    rw c.in-Add.is
    (adds c.in-Add.s c.in-Add.t c.find-in-Add.result c.find-in-Add-2.result
    (found c.in-Add.s _ c.as_slice-in-Add.ensures c.find-in-Add.ensures)
    (found c.in-Add.t _ c.as_slice-in-Add-2.ensures c.find-in-Add-2.ensures) c.add.ensures.line)

pub returns-in-Multiple : goal.returns-in-Multiple
returns-in-Multiple g c =
    rw c.in-Multiple.is
    (repeats c.in-Multiple.n c.in-Multiple.t c.find-in-Multiple.result
    (found c.in-Multiple.t _ c.as_slice-in-Multiple.ensures c.find-in-Multiple.ensures)
    (subst
    (λ (ns : List ℕ). Repeated (g.F.Field.meaning c.args.curve.now.field) c.args.curve.now.setting c.find-in-Multiple.result ns c.multiple.result)
    c.as_slice-in-Multiple-2.ensures c.multiple.ensures))
