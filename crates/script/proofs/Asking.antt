-- The places that answer requests.
use Rattle.std.proofs.Common.{◌≡◌, ℕ, List, subst}
use Rattle.field.specs.Meaning.{Meaning}
use Rattle.algebra.specs.Codes.{K}
use Rattle.algebra.proofs.Line.{place_legal}
use Rattle.algebra.proofs.Multiples.{place_times}
use Rattle.rules.specs.Packets.{number}
use Rattle.rules.specs.Settings.{setting}
use Rattle.ideal.specs.declared.setting.Setting.{Setting}
use Rattle.place.specs.Results.{Found, AddedAt, Repeated}
use Rattle.place.specs.declared.place.Place.{Place}
use Rattle.script.specs.declared.wide.Wide.{Wide}
use Rattle.script.specs.declared.request.Request.TheVariants.{Find, Add, Multiple}
use Rattle.script.specs.Requests.{Asked}

module _ {M : Meaning} {s : Setting} {r : Place} where
  -- the place found from the bytes that a number lends
  pub found : (n : Wide) (ns : List ℕ) → ns ≡ n.bytes → Found M s ns r → Found M s n.bytes r
  found n ns lent h = subst (λ (xs : List ℕ). Found M s xs r) lent h

  pub finds : (n : Wide) → Found M s n.bytes r → Asked M s (Find n) r
  finds n h = record { holds = h }

  pub adds : (i j : Wide) (x y : Place) → Found M s i.bytes x → Found M s j.bytes y → AddedAt M s x y r → Asked M s (Add i j) r
  adds i j x y h k sum = record { holds = λ L A S. sum L A (number i.bytes) (number j.bytes) S (h L A S) (k L A S) }

  pub repeats : (n t : Wide) (x : Place) → Found M s t.bytes x → Repeated M s x n.bytes r → Asked M s (Multiple n t) r
  repeats n t x h times =
      record {
        holds = λ L A S.
            let (π, at, held) = h L A S in
            let (σ, all, held') = times L A π S held (place_legal (K L) (setting L A) at) in
            (σ, place_times (K L) (setting L A) at all, held');
      }
