use Rattle.std.proofs.Common.{refl, arith}
use Rattle.poly.proofs.Zeros.{zeros}
use Rattle.poly.proofs.poly.make.filled.Goals as goal

pub loop-i-init : goal.loop-i-init
loop-i-init g c = record { long = refl; given = λ k h. absurd (omega arith); past = λ k h. zeros 128 k }
