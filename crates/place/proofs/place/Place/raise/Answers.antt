use Rattle.std.proofs.Common.{arith}
use Rattle.place.proofs.Repeating.{some, nothing, first, doubled, doubled_more}
use Rattle.place.proofs.place.Place.raise.Goals as goal

pub returns-in-None-default : goal.returns-in-None-default
returns-in-None-default g c = λ small L A π n hs hp l h.
    first L A l hp (nothing L A π c.in-None-default.is-0 h) (omega (arith, c.in-None-default.is-1.1))

pub returns-in-Some-eq0 : goal.returns-in-Some-eq0
returns-in-Some-eq0 g c = λ small L A π n hs hp l h. doubled L A l hp hs (some L A c.in-Some-eq0.is-0 h) c.add.ensures.sums c.in-Some-eq0.is-1

pub returns-in-Some-default : goal.returns-in-Some-default
returns-in-Some-default g c = λ small L A π n hs hp l h.
    doubled_more L A l hp hs (some L A c.in-Some-default.is-0 h) c.add-in-Some-default.ensures.sums
    (omega (arith, c.in-Some-default.is-1.1)) c.add-in-Some-default-2.ensures.sums
