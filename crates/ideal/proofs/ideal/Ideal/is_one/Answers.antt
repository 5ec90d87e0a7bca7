use Rattle.std.proofs.Common.{rules}
use Rattle.ideal.proofs.Units.{one_tested}
use Rattle.ideal.proofs.ideal.Ideal.is_one.Goals as goal

pub returns-clause-is : goal.returns-clause-is
returns-clause-is c = one_tested (search rules)
