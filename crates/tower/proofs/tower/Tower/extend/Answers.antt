use Rattle.std.proofs.Common.{sym}
use Rattle.tower.proofs.Sizes.{at_pile, squared, moved}
use Rattle.tower.proofs.tower.Tower.extend.Goals as goal
use Rattle.tower.proofs.tower.Tower.extend.Goals.{in-Base+in_ok-new-in-Base, in-One+in_ok-new-in-One, in-Two+in_ok-new-in-Two, in-Three+in_ok-new-in-Three}

pub invariant_of-result : goal.invariant_of-result
invariant_of-result c =
    let h = c.args.self.large in
    record {
      large = elim c.match-self.branch [
        | in-Base+in_ok-new-in-Base w ↦ at_pile _ _ (sym w.pile-is) (squared 3 _ _ _ (at_pile _ _ w.in-Base.is h) w.in_ok-new-in-Base.ensures.1)
        | in-One+in_ok-new-in-One w ↦ at_pile _ _ (sym w.pile-is) (squared 9 _ _ _ (at_pile _ _ w.in-One.is h) w.in_ok-new-in-One.ensures.1)
        | in-Two+in_ok-new-in-Two w ↦ at_pile _ _ (sym w.pile-is) (squared 81 _ _ _ (at_pile _ _ w.in-Two.is h) w.in_ok-new-in-Two.ensures.1)
        | in-Three+in_ok-new-in-Three w ↦ at_pile _ _ (sym w.pile-is) (squared 6561 _ _ _ (at_pile _ _ w.in-Three.is h) w.in_ok-new-in-Three.ensures.1)
      ];
    }

pub returns : goal.returns
returns c =
    elim c.match-self.branch [
      | in-Base+in_ok-new-in-Base w ↦ moved _ _ _ _ w.in-Base.is w.pile-is w.in_ok-new-in-Base.ensures
      | in-One+in_ok-new-in-One w ↦ moved _ _ _ _ w.in-One.is w.pile-is w.in_ok-new-in-One.ensures
      | in-Two+in_ok-new-in-Two w ↦ moved _ _ _ _ w.in-Two.is w.pile-is w.in_ok-new-in-Two.ensures
      | in-Three+in_ok-new-in-Three w ↦ moved _ _ _ _ w.in-Three.is w.pile-is w.in_ok-new-in-Three.ensures
    ]
