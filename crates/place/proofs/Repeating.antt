-- Multiples of a place, digit by digit.
use Rattle.std.proofs.Common.{◌≡◌, ℕ, ◌+◌, ◌*◌, Some, None, Option, subst, arith}
use Rattle.std.specs.Option.{unwrap_or}
use Rattle.field.specs.Meaning.{Meaning, Lawful}
use Rattle.algebra.specs.Codes.{K}
use Rattle.algebra.specs.Places.{LawfulPlace}
use Rattle.algebra.proofs.Adds.{adds-~, adds_lawful}
use Rattle.algebra.proofs.Group.{multiple_one, multiple_double, multiple_next}
use Rattle.algebra.proofs.Multiples.{times_of, times_lawful, times_multiple}
use Rattle.rules.specs.Settings.{Accepted, setting}
use Rattle.rules.specs.Places.{Places}
use Rattle.ideal.specs.Values.{SettingIs}
use Rattle.ideal.specs.declared.setting.Setting.{Setting}
use Rattle.place.specs.Values.{PlaceIs, HoldsTimes}
use Rattle.place.specs.Results.{Added, NoTimes, SoFar}
use Rattle.place.specs.declared.place.Place.{Place}

module _ {M : Meaning} (L : Lawful M) (A : Accepted L) where
  -- what is there, and that nothing is
  pub some : {π : Places L A} {n : ℕ} {o : Option Place} {q : Place} → o ≡ Some q → SoFar L A π n o → HoldsTimes L A π n q
  some {π} {n} e h = subst (λ (o : Option Place). SoFar L A π n o) e h

  pub nothing : (π : Places L A) {n : ℕ} {o : Option Place} → o ≡ None → SoFar L A π n o → n ≡ 0
  nothing π {n} e h = subst (λ (o : Option Place). SoFar L A π n o) e h

  -- what is there, or place 0
  pub settled : {π : Places L A} {n : ℕ} (o : Option Place) {z : Place} → NoTimes z → SoFar L A π n o → HoldsTimes L A π n (unwrap_or o z)
  settled {π} {n} None none h = none M L A π n h
  settled (Some p) none h = h

  module _ {π : Places L A} (l : LawfulPlace (K L) (setting L A) π) {p : Place} (hp : PlaceIs L A p π) where
    once : HoldsTimes L A π 1 p
    once = (π, times_of (K L) (setting L A) 1 π π l (multiple_one (K L) (setting L A) π), hp)

    module _ {s : Setting} (hs : SettingIs L A s) where
      twice : (n : ℕ) {q r : Place} → HoldsTimes L A π n q → Added M s q q r → HoldsTimes L A π (n * 2) r
      twice n {r = r} (σ, t, hq) added =
          let legal = times_lawful (K L) (setting L A) t in
          let (τ, adds, hr) = added L A σ σ hs hq hq legal legal in
          let double = multiple_double (K L) (setting L A) n π σ τ (times_multiple (K L) (setting L A) t) (adds-~ (K L) (setting L A) adds) in
          let e : n + n ≡ n * 2 = omega arith in
          subst (λ (k : ℕ). HoldsTimes L A π k r) e (τ, times_of (K L) (setting L A) (n + n) π τ (adds_lawful (K L) (setting L A) adds) double, hr)

      once_more : (n : ℕ) {q r : Place} → HoldsTimes L A π n q → Added M s q p r → HoldsTimes L A π (n + 1) r
      once_more n (σ, t, hq) added =
          let (τ, adds, hr) = added L A σ π hs hq hp (times_lawful (K L) (setting L A) t) l in
          let next = multiple_next (K L) (setting L A) n π σ τ (times_multiple (K L) (setting L A) t) (adds-~ (K L) (setting L A) adds) in
          (τ, times_of (K L) (setting L A) (n + 1) π τ (adds_lawful (K L) (setting L A) adds) next, hr)

    -- the first digit 1
    pub first : {n digit : ℕ} → n ≡ 0 → digit ≡ 1 → HoldsTimes L A π (n * 2 + digit) p
    first {n} {digit} e d = let k : 1 ≡ n * 2 + digit = omega arith in subst (λ (j : ℕ). HoldsTimes L A π j p) k once

    module _ {s : Setting} (hs : SettingIs L A s) {n digit : ℕ} {q t : Place} (h : HoldsTimes L A π n q) (double : Added M s q q t) where
      -- a further digit 0
      pub doubled : digit ≡ 0 → HoldsTimes L A π (n * 2 + digit) t
      doubled d = let k : n * 2 ≡ n * 2 + digit = omega arith in subst (λ (j : ℕ). HoldsTimes L A π j t) k (twice hs n h double)

      -- a further digit 1
      pub doubled_more : {r : Place} → digit ≡ 1 → Added M s t p r → HoldsTimes L A π (n * 2 + digit) r
      doubled_more {r} d next =
          let k : n * 2 + 1 ≡ n * 2 + digit = omega arith in
          subst (λ (j : ℕ). HoldsTimes L A π j r) k (once_more hs (n * 2) (twice hs n h double) next)
