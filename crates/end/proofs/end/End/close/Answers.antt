use Rattle.std.proofs.Common.{sym, ap, ⊎_elim}
use Rattle.end.specs.declared.modes.Mode.TheVariants.{Ready}
use Rattle.end.specs.declared.end.End.{End}
use Rattle.end.specs.Modes.{closed_mode}
use Rattle.end.proofs.Standing.{closes}
use Rattle.end.proofs.end.End.close.Goals as goal

pub returns-in-Open-clause-follows : goal.returns-in-Open-clause-follows
returns-in-Open-clause-follows g c =
    let after : End g.row.F.Denot = record {
      field = c.args.self.now.field;
      mode = Ready c.in-Open.setting;
      ideal = c.cleared-self.result;
      distance = c.fill.new.self;
      key = c.cleared-self-in-Open.result;
    } in
    closes c.args.self.now after (⊎_elim (λ e. sym (ap closed_mode e)) (λ e. sym (ap closed_mode e)) c.in-Open.is)
