-- The loop of the walk: what has been walked so far, and what the walk from there on makes of it.
use Rattle.std.proofs.Common.{◌≡◌, ℕ, ◌+◌, ◌≤◌, Some, None, refl, arith}
use Rattle.field.specs.Meaning.{Meaning, Lawful}
use Rattle.ring.proofs.Lengths.{len_pos}
use Rattle.algebra.specs.Codes.{K}
use Rattle.algebra.specs.Ideals.{Standard}
use Rattle.algebra.specs.Places.{place, Walks, stop, walk}
use Rattle.algebra.proofs.Step.{step_far, step_reduced}
use Rattle.rules.specs.Settings.{Accepted, setting, Ideals}
use Rattle.rules.specs.Places.{Places}
use Rattle.ideal.specs.Values.{SettingIs, IdealIs}
use Rattle.ideal.specs.declared.setting.Setting.{Setting}
use Rattle.ideal.proofs.Records.{size_is}
use Rattle.place.specs.Values.{PlaceIs}
use Rattle.place.specs.Results.{step_length, Paced}
use Rattle.place.specs.declared.place.Place.{Place}

module _ {M : Meaning} (L : Lawful M) (A : Accepted L) where
  open K L use {len}

  -- from x with the gap `whole`, a number of turns led to the place p, whose offset is the gap that is left
  pub record Walking (x : Ideals L A) (whole turns : ℕ) (p : Place) : Type 0 where
    pub y : Ideals L A
    pub is : IdealIs L A p.ideal y
    pub standard : Standard (K L) (setting L A) y
    pub short : len y.Q ≤ A.m
    pub spent : turns + p.offset ≤ whole
    pub onward : (c : Ideals L A) (rest : ℕ) → Walks (K L) (setting L A) y p.offset c rest → Walks (K L) (setting L A) x whole c rest

  pub start : (x : Ideals L A) (p : Place) → IdealIs L A p.ideal x → Standard (K L) (setting L A) x → len x.Q ≤ A.m → Walking x p.offset 0 p
  start x p h t l = record { y = x; is = h; standard = t; short = l; spent = omega arith; onward = λ c rest w. w }

  -- the place where the walk from x over the gap `whole` ends
  abbrev pub Ended : Ideals L A → ℕ → Place → Type 0
  Ended x whole p = (σ : Places L A) × Walks (K L) (setting L A) x whole σ.ideal σ.off × PlaceIs L A p σ

  module _ {s : Setting} (h : SettingIs L A s) {x : Ideals L A} {whole turns : ℕ} {p : Place} (w : Walking x whole turns p) where
    -- the length of the next step
    length : step_length s p.ideal + len w.y.Q ≡ A.m + 1
    length = omega (arith, size_is L w.is.Q_is, h.m_is, len_pos (K L) w.y.Q w.y.alive, w.short)

    pub again : {q : Place} → Paced M s p (Some q) → Walking x whole (turns + 1) q
    again (enough, left, (far, stepped)) =
        let (z, σ, is) = stepped L A w.y h w.is w.standard (omega (arith, w.short)) in
        let goes = step_far (K L) (setting L A) σ w.short in
        record {
          y = z;
          is = is;
          standard = σ.standard_to.standard;
          short = step_reduced (K L) (setting L A) σ w.short;
          spent = omega (arith, w.spent, w.short, length);
          onward = λ c rest k. w.onward c rest (walk (omega (arith, length)) σ (omega (arith, length)) k);
        }

    -- the gap is below the length of the next step
    pub stopped : Paced M s p None → Ended x whole p
    stopped g = (
      place (K L) (setting L A) w.y p.offset,
      w.onward w.y p.offset (stop (omega (arith, length))),
      record { ideal_is = w.is; off_is = refl },
    )

    -- so is a gap of 0, which is all that can be left after as many turns as the whole gap has
    pub spent_all : whole ≤ turns → Ended x whole p
    spent_all g = stopped (omega (arith, length, w.spent, w.short))
