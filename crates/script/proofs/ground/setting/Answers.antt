use Rattle.std.proofs.Common.{inr}
use Rattle.script.proofs.ground.setting.Goals as goal

pub returns : goal.returns
returns g c = inr (c.in_ok-radicand.radicand, c.in_ok-radicand.ensures, c.new.ensures.made)
