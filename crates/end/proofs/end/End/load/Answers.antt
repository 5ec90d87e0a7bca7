use Rattle.std.proofs.lemmas.Result.{err_from_is_err_and}
use Rattle.end.proofs.Loading.{load_refused, loaded}
use Rattle.end.proofs.end.End.load.Goals as goal

pub returns-in_err-setting-clause-follows : goal.returns-in_err-setting-clause-follows
returns-in_err-setting-clause-follows g c =
    let p = err_from_is_err_and c.from_residual-in_err-setting.result c.from_residual-in_err-setting.ensures.1 in
    rw (p.1, p.2) (load_refused c.args.self.now c.args.bytes.now c.in_err-setting.field-0.0 c.in_ok-may_load.ensures c.in_err-setting.ensures)

pub returns-clause-follows : goal.returns-clause-follows
returns-clause-follows g c = loaded c.args.self.now c.args.bytes.now c.in_ok-setting.setting c.in_ok-may_load.ensures c.in_ok-setting.ensures
