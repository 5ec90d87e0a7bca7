use Rattle.std.proofs.Common.{arith}
use Rattle.field.proofs.Primality.{listed_prime}
use Rattle.field.proofs.Inverses.{turn}
use Rattle.field.proofs.prime.ops.PrimeField.inv.Goals as goal

pub loop-rest-preserved : goal.loop-rest-preserved
loop-rest-preserved c =
    let i = c.loop-rest.invariant in
    let f = c.args.self.now in
    let t = turn f.p c.args.a c.loop-rest.factor c.loop-rest.rest (listed_prime f.p f.ok) c.loop-rest-test.true i.1 i.2 i.3 in
    (t.0, omega arith, t.2, t.3)
