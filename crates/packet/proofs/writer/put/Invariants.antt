use Rattle.std.proofs.Common.{◌≡◌, reverse, length, take}
use Rattle.rules.specs.Packets.{spell}
use Rattle.packet.specs.Writing.{over}
use Rattle.packet.proofs.writer.put.Given as goal

abbrev pub invariant-loop-i : goal.invariant-loop-i
invariant-loop-i l = l.body ≡ over l.initial.body 0 (spell (take (length l.yielded) (reverse l.codes)))
