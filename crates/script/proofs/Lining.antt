-- One step of the walk along the line.
use Rattle.std.proofs.Common.{◌≡◌, ℕ, suc, ◌+◌, ◌-◌, ◌*◌, ◌^◌, ◌<◌, ◌≤◌, min, subst, arith}
use Rattle.field.specs.Meaning.{Meaning, Lawful}
use Rattle.ring.proofs.Lengths.{len_pos}
use Rattle.algebra.specs.Codes.{K}
use Rattle.algebra.specs.Lines.{Line, start, next}
use Rattle.algebra.proofs.Line.{line_reduced, line_standard}
use Rattle.algebra.proofs.Step.{step_far}
use Rattle.rules.specs.Settings.{Accepted, setting, Ideals}
use Rattle.ideal.specs.Results.{Stepped}
use Rattle.ideal.specs.declared.setting.Setting.{Setting}
use Rattle.ideal.proofs.Records.{size_is}
use Rattle.poly.specs.Values.{size}
use Rattle.script.specs.declared.walk.Stop.{Stop}
use Rattle.script.specs.Walks.{OnLine}

module _ {M : Meaning} (L : Lawful M) (A : Accepted L) where
  open K L use {len}

  -- no step goes further than m, which is 25 at most
  near : {i δ : ℕ} {a : Ideals L A} → Line (K L) (setting L A) i a δ → δ ≤ 25 * i
  near start = omega arith
  near (next {a = a} l σ e) =
      omega (arith, near l, e, step_far (K L) (setting L A) σ (line_reduced (K L) (setting L A) l), A.high, len_pos (K L) a.Q a.alive)

pub onward : {M : Meaning} {s : Setting} {x y : Stop} (far : ℕ) → Stepped M s x.ideal y.ideal far → x.index + 1 < 2 ^ 32
    → y.index ≡ x.index + 1 → y.distance ≡ min (x.distance + (far - size x.ideal.q)) (2 ^ 64 - 1) → OnLine M s x → OnLine M s y
onward {x = x} {y = y} far step small index distance on L A S =
    let (a, l, is) = on L A S in
    let red : (K L).len a.Q ≤ A.m = line_reduced (K L) (setting L A) l in
    let (b, σ, is') = step L A a S is (line_standard (K L) (setting L A) l) (omega arith) in
    let goes : far ≡ A.m + 1 = step_far (K L) (setting L A) σ red in
    let long : (K L).len a.Q ≡ size x.ideal.q = size_is L is.Q_is in
    let e : y.distance + (K L).len a.Q ≡ x.distance + far = omega (arith, near L A l, A.high) in
    let i : suc x.index ≡ y.index = omega arith in
    (b, subst (λ (k : ℕ). Line (K L) (setting L A) k b y.distance) i (next l σ e), is')
