use Rattle.std.proofs.Common.{refl, inl, inr, arith}
use Rattle.place.proofs.Making.{fits, over}
use Rattle.place.proofs.place.Place.new.Goals as goal

pub returns-then-offset-step_length : goal.returns-then-offset-step_length
returns-then-offset-step_length c = record {
  fitted = (omega arith, refl);
  made = λ M L A x hs hx t. inr (over L A hs hx c.args.offset (omega arith), refl);
}

pub returns : goal.returns
returns c = record {
  fitted = (omega arith, refl, refl);
  made = λ M L A x hs hx t.
      let room = fits L A hs hx c.args.offset (omega arith) in
      (inl (room, refl), record { standard = t; fits = room }, record { ideal_is = hx; off_is = refl });
}
