use Rattle.std.proofs.Common.{sym, ◌∙◌}
use Rattle.ideal.proofs.Records.{zero_is}
use Rattle.ideal.proofs.ideal.Ideal.cleared.Goals as goal

pub returns : goal.returns
returns c = record {
  zero = λ k. (c.zero-zero.ensures.places k, c.zero-zero.ensures.places k);
  none = λ M L A x h. x.alive (sym h.Q_is.is ∙ (zero_is L c.zero-zero.ensures.is).is);
}
