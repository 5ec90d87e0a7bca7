-- Product, reduction and walk make a sum.
use Rattle.std.proofs.Common.{◌≡◌, ℕ, ◌+◌, ◌-◌, ◌*◌, ◌^◌, ◌≤◌, min, sym, subst, arith}
use Rattle.field.specs.Meaning.{Meaning, Lawful}
use Rattle.ring.proofs.Lengths.{len_pos}
use Rattle.algebra.specs.Codes.{K}
use Rattle.algebra.specs.Ideals.{Standard}
use Rattle.algebra.specs.Places.{Adds}
use Rattle.algebra.proofs.Product.{s_alive, product_alive, product_len}
use Rattle.algebra.proofs.Step.{normal_len}
use Rattle.algebra.proofs.Adds.{reduces_tidy, reduces_reduced, reduces_saved}
use Rattle.algebra.proofs.Line.{place_legal, adds_place}
use Rattle.rules.specs.Settings.{Accepted, setting, Ideals}
use Rattle.rules.specs.Places.{Places}
use Rattle.poly.specs.Values.{size}
use Rattle.ideal.specs.Values.{SettingIs, IdealIs}
use Rattle.ideal.specs.declared.setting.Setting.{Setting}
use Rattle.ideal.specs.declared.ideal.Ideal.{Ideal}
use Rattle.ideal.proofs.Records.{size_is}
use Rattle.place.specs.Values.{PlaceIs, HoldsAt}
use Rattle.place.specs.Results.{GiantMade, Gap, Walked, Summed, SummedAt}
use Rattle.place.specs.declared.place.Place.{Place}
use Rattle.place.specs.declared.place.GiantStep.{GiantStep}

-- r is the sum of the ideals of a giant step at offsets that sum up to `offsets`
abbrev Sum : Meaning → Setting → Ideal → Ideal → ℕ → Place → Type 0
Sum M s a b offsets r = (L : Lawful M) (A : Accepted L) (x y : Ideals L A) (f g : ℕ) → SettingIs L A s → IdealIs L A a x
    → IdealIs L A b y → Standard (K L) (setting L A) x → Standard (K L) (setting L A) y → (K L).len x.Q ≤ A.m
    → (K L).len y.Q ≤ A.m → offsets ≡ f + g → offsets ≤ 2 * A.m
    → (σ : Places L A) × Adds (K L) (setting L A) x f y g σ.ideal σ.off × PlaceIs L A r σ

-- the gap is short of the limit of its type
sum_of : {M : Meaning} {s : Setting} {a b : Ideal} {g : GiantStep} {offsets gap : ℕ} {r : Place} → GiantMade M s a b g → Gap g offsets gap
    → Walked M s (record { ideal = g.ideal; offset = gap }) r → Sum M s a b offsets r
sum_of {g = g} {offsets = offsets} {gap = gap} made gap_is walked L A x y f k hs hx hy tx ty lx ly e top =
    let (S, Qc, Pc, z, π, ν, z_is, S-is) = made.multiplied L A x y hs hx hy tx ty lx ly in
    let lens = product_len (K L) (setting L A) x y S Qc Pc π in
    let lenz = normal_len (K L) (setting L A) Qc Pc z ν (product_alive (K L) (setting L A) x y S Qc Pc π) in
    let lenS = len_pos (K L) S (s_alive (K L) (setting L A) x y S Qc Pc π) in
    let sizes = size_is L S-is in
    let (w, ρ, w_is) = made.reduced L A z hs z_is ν.standard (omega arith) in
    let less = reduces_saved (K L) (setting L A) ρ in
    let lenw = len_pos (K L) w.Q w.alive in
    let is : gap ≡ offsets + (size g.divisor - 1) + g.saved = gap_is (omega (arith, A.high)) in
    let all : gap + 1 ≡ f + k + (K L).len S + g.saved = omega arith in
    let (σ, ω, σ-is) = walked L A w hs w_is (reduces_tidy (K L) (setting L A) ρ ν.standard) (reduces_reduced (K L) (setting L A) ρ) (omega arith) in (
      σ,
      record {
        s = S;
        Qc = Qc;
        Pc = Pc;
        whole = z;
        small = w;
        saved = g.saved;
        gap = gap;
        is_product = π;
        is_normal = ν;
        is_reduced = ρ;
        gap_is = all;
        is_walked = ω;
      },
      σ-is,
    )

-- so are the offsets
pub summed : {M : Meaning} {s : Setting} {p q r : Place} {g : GiantStep} {more offsets gap : ℕ} → GiantMade M s p.ideal q.ideal g
    → offsets ≡ min (min (p.offset + q.offset) (2 ^ 64 - 1) + more) (2 ^ 64 - 1) → Gap g offsets gap
    → Walked M s (record { ideal = g.ideal; offset = gap }) r → Summed M s p q more r
summed {p = p} {q = q} {more = more} {offsets = offsets} made offsets_are gap_is walked L A π ρ f hs hp hq lp lq small e =
    let lenp = len_pos (K L) π.ideal.Q π.ideal.alive in
    let lenq = len_pos (K L) ρ.ideal.Q ρ.ideal.alive in
    let all : offsets ≡ f + ρ.off = omega (arith, hp.off_is, hq.off_is, lp.fits, lq.fits, A.high) in
    sum_of made gap_is walked L A π.ideal ρ.ideal f ρ.off hs hp.ideal_is hq.ideal_is lp.standard lq.standard
    (omega (arith, lp.fits)) (omega (arith, lq.fits)) all (omega (arith, lp.fits, lq.fits))

-- on the line
pub summed_at : {M : Meaning} {s : Setting} {p q r : Place} {more : ℕ} → Summed M s p q more r → SummedAt M s p q more r
summed_at {r = r} {more = more} summed L A i j n hs (π, there, hp) (ρ, here, hq) small e =
    let (σ, adds, hr) = summed L A π ρ (π.off + more) hs hp hq (place_legal (K L) (setting L A) there) (place_legal (K L) (setting L A) here) small (omega arith) in
    subst (λ (k : ℕ). HoldsAt L A k r) (sym e) (σ, adds_place (K L) (setting L A) more π ρ σ there here adds, hr)
