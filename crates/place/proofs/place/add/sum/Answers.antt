use Rattle.std.proofs.Common.{rules}
use Rattle.place.specs.Results.{Summed}
use Rattle.place.proofs.Summing.{summed, summed_at}
use Rattle.place.proofs.place.add.sum.Goals as goal

pub returns : goal.returns
returns g c = record { sums = sums; line = summed_at sums }
  where
    sums : Summed (g.F.Field.meaning c.args.curve.now.field) c.args.curve.now.setting c.args.a.now c.args.b.now c.args.more c.walk.result
    sums = summed c.new-giant.ensures (search rules) c.gap-offset.ensures c.walk.ensures
