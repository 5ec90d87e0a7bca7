-- Opening: the ideal closest to the left of the secret number, and the own distance.
use Rattle.std.proofs.Common.{◌≡◌, ℕ, zero, suc, ◌+◌, ◌-◌, ◌≤◌, Bool, true, false, List, [], ◌++◌, length, take, drop, replicate, Decides, sym, refl, ap, ◌∙◌, subst, ap₂, inl, inr, true≢false, append-nil, arith}
use borrow.Rule.Slice.PartMut.{put_mid}
use Rattle.std.proofs.lemmas.List.{take-replicate}
use Rattle.field.specs.Meaning.{Meaning, Lawful}
use Rattle.algebra.specs.Codes.{K}
use Rattle.algebra.proofs.Line.{place_legal, place_closest}
use Rattle.rules.specs.Questions.{accepted, refused, Answers}
use Rattle.rules.specs.Packets.{number}
use Rattle.rules.specs.Settings.{Accepted, setting, Ideals, unit_ideal, Closest}
use Rattle.rules.specs.Ends.{State, blank, ready, opened, keyed, «open», OpensTo, secret_asks}
use Rattle.rules.proofs.Offered.{closest_unique}
use Rattle.packet.proofs.Buffers.{mid_over}
use Rattle.ideal.specs.Values.{IdealIs}
use Rattle.ideal.specs.Results.{IsOne}
use Rattle.ideal.specs.declared.setting.Setting.{Setting}
use Rattle.ideal.specs.declared.ideal.Ideal.{Ideal}
use Rattle.place.specs.Values.{HoldsAt}
use Rattle.place.specs.Results.{Found}
use Rattle.place.specs.Lessened.{Left}
use Rattle.place.specs.declared.place.Place.{Place}
use Rattle.end.specs.declared.modes.Mode.TheVariants.{Open}
use Rattle.end.specs.declared.end.End.{End}
use Rattle.end.specs.Modes.{InReady, Holds}
use Rattle.end.specs.Values.{EndIs}
use Rattle.end.specs.Results.{Follows, OneTo32}
use Rattle.end.proofs.Standing.{opens_when, refuses, setting_holds}

-- zeros in front leave a number as it is
pub number_padded : (k : ℕ) (n : List ℕ) → number (replicate k 0 ++ n) ≡ number n
number_padded zero n = refl
number_padded (suc k) n = number_padded k n

-- 32 zeros with a number written to their end
pub number_kept : (z y n : List ℕ) → z ≡ replicate 32 0 → y ≡ n → length n ≤ 32
    → number (put_mid (32 - length n) (32 - (32 - length n)) z y) ≡ number n
number_kept z y n zeros e h =
    let at : ℕ = 32 - length n in
    let front : take at z ≡ replicate at 0 = ap (take at) zeros ∙ take-replicate at 32 0 (omega arith) in
    let back : drop (at + length n) z ≡ [] = ap₂ (λ (i : ℕ) (u : List ℕ). drop i u) (let k : at + length n ≡ 32 = omega arith in k) zeros in
    ap number (mid_over z n y at (32 - at) e (omega arith) ∙ ap₂ (λ (u v : List ℕ). u ++ (n ++ v)) front back)
    ∙ number_padded at (n ++ []) ∙ ap number (append-nil n)

module _ {M : Meaning} (L : Lawful M) (A : Accepted L) (n : List ℕ) (p : Place) (h : HoldsAt L A (number n) p) (one : Bool) (asked : IsOne p.ideal one) where
  abbrev near : Ideals L A
  near = h.0.ideal

  -- the ideal of the place is the closest to the left
  closest : Closest L A (number n) near h.1.distance
  closest = place_closest (K L) (setting L A) h.1

  decides : Decides one (near ≡ unit_ideal L A)
  decides = asked M L A near h.2.ideal_is (place_legal (K L) (setting L A) h.1).standard

  pub opens_to_one : one ≡ true → ¬ (OpensTo L A n)
  opens_to_one e (b, δ, left, other) = other ((closest_unique L A (number n) δ h.1.distance b near left closest).0 ∙ decides.0 e)

  pub opens_to : one ≡ false → OpensTo L A n
  opens_to e = (near, h.1.distance, closest, (λ u. true≢false (sym (decides.1 u) ∙ e)))

  -- the secret less the offset is the own distance
  pub own_distance : (kept : List ℕ) → Left n p.offset kept → number kept ≡ h.1.distance
  own_distance kept left =
      let split = h.1.split in
      let off = h.2.off_is in
      let small : p.offset ≤ number n = omega arith in
      let rest = left small in
      omega arith

module _ {F : Type 0} {M : Meaning} (e : End F) (n : List ℕ) (t : Setting) (p : Place) (one : Bool)
    (ok : InReady e.mode) (holds : Holds e.mode t) (size : OneTo32 n) (found : Found M t n p) (asked : IsOne p.ideal one) where
  secret_asked : (L : Lawful M) (s : State L) → EndIs L e s → one ≡ true → Answers (secret_asks L s n) (refused 33)
  secret_asked L blank is o = absurd ((opens_when L e blank is).0 ok)
  secret_asked L (ready A) is o = inr (opens_to_one L A n p (found L A (setting_holds L e t (ready A) is holds)) one asked o, refl)
  secret_asked L (opened A a δ) is o = absurd ((opens_when L e (opened A a δ) is).0 ok)
  secret_asked L (keyed A a δ k) is o = absurd ((opens_when L e (keyed A a δ k) is).0 ok)

  pub trivial_secret : one ≡ true → Follows M e («open» n) (refused 33) (replicate (length n) 0) e
  trivial_secret o = refuses e («open» n) 33 (replicate (length n) 0)
      (λ L s is. (inl ((opens_when L e s is).0 ok, inl (size, secret_asked L s is o)), refl))

  pub open_made : one ≡ false → (after : End F) → after.mode ≡ Open t → after.ideal ≡ p.ideal → Left n p.offset after.distance
      → Follows M e («open» n) accepted (replicate (length n) 0) after
  unfolding opens_to
  open_made o after mode_is ideal_is left L blank is = absurd ((opens_when L e blank is).0 ok)
  open_made o after mode_is ideal_is left L (ready A) is =
      let A_is = setting_holds L e t (ready A) is holds in
      let h = found L A A_is in
      let to = opens_to L A n p h one asked o in (
        opened A to.0 to.1,
        record { answer = inl (tt, inl (size, inl (to, refl))); after = (refl, (to.0, to.1, to.2, refl)) },
        (t, mode_is, A_is, subst (λ (i : Ideal). IdealIs L A i to.0) (sym ideal_is) h.2.ideal_is, own_distance L A n p h one asked after.distance left),
      )
  open_made o after mode_is ideal_is left L (opened A a δ) is = absurd ((opens_when L e (opened A a δ) is).0 ok)
  open_made o after mode_is ideal_is left L (keyed A a δ k) is = absurd ((opens_when L e (keyed A a δ k) is).0 ok)
