use Rattle.std.proofs.Common.{rules}
use Rattle.ideal.proofs.Units.{one_made}
use Rattle.ideal.proofs.ideal.Ideal.one.Goals as goal

pub returns : goal.returns
returns c = one_made (search rules) (search rules)
