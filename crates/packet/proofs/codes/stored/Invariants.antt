use Rattle.std.proofs.Common.{reverse, length}
use Rattle.rules.specs.Packets.{words}
use Rattle.packet.proofs.Words.{Filled}
use Rattle.packet.proofs.codes.stored.Given as goal

abbrev pub invariant-loop-k : goal.invariant-loop-k
invariant-loop-k l = Filled (reverse (words l.body)) (length l.yielded) l.coeffs
