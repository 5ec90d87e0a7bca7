use Rattle.std.proofs.Common.{◌≡◌, ℕ, zero, suc, arith}
use Rattle.poly.specs.Values.{at}
use Rattle.poly.proofs.Sums.{zero_is}
use Rattle.poly.proofs.poly.Poly.zero.Goals as goal

pub returns : goal.returns
returns c = record { places = all; is = zero_is c.constant.result all }
  where
    all : (k : ℕ) → at c.constant.result k ≡ 0
    all zero = c.constant.ensures.places.0
    all (suc k) = c.constant.ensures.places.1 (suc k) (omega arith)
