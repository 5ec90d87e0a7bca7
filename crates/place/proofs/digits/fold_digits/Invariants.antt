use Rattle.std.proofs.Common.{take}
use Rattle.rules.specs.Packets.{number}
use Rattle.place.specs.Digits.{Through}
use Rattle.place.proofs.Numbers.{up_to}
use Rattle.place.proofs.digits.fold_digits.Given as goal

abbrev pub invariant-loop-byte : goal.invariant-loop-byte
invariant-loop-byte g l = Through (goal.S-post g l.step) l.fn.start (number (take l.byte-index l.bytes)) l.found

abbrev pub invariant-loop-k : goal.invariant-loop-k
invariant-loop-k g l = Through (goal.S-post g l.step) l.fn.start (up_to (number (take l.byte-index l.bytes)) l.byte l.k) l.found
