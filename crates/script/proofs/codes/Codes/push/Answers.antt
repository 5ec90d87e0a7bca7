use Rattle.std.proofs.Common.{◌<◌, length, add-one, arith, take-suc-set}
use Rattle.script.proofs.codes.Codes.push.Goals as goal

pub returns : goal.returns
returns c =
    let h : c.args.self.now.len < length c.args.self.now.list = omega arith in
    rw add-one (take-suc-set c.args.self.now.list c.args.self.now.len c.args.code h)
