-- Reduction: the loop of baby steps.
use Rattle.std.proofs.Common.{◌≡◌, ℕ, ◌+◌, ◌-◌, ◌<◌, ◌≤◌, subst, arith}
use Rattle.field.specs.Meaning.{Meaning, Lawful}
use Rattle.algebra.specs.Codes.{K}
use Rattle.algebra.specs.Ideals.{Standard}
use Rattle.algebra.specs.Steps.{StepTo}
use Rattle.algebra.specs.Places.{Reduces, reduced, reduce}
use Rattle.algebra.proofs.Step.{step_big, step_short, step_falls}
use Rattle.rules.specs.Settings.{Accepted, setting, Ideals}
use Rattle.poly.specs.Values.{size}
use Rattle.ideal.specs.Values.{SettingIs, IdealIs}
use Rattle.ideal.specs.Results.{Stepped, Reduced}
use Rattle.ideal.specs.declared.setting.Setting.{Setting}
use Rattle.ideal.specs.declared.ideal.Ideal.{Ideal}
use Rattle.ideal.proofs.Records.{size_is}

module _ {M : Meaning} (L : Lawful M) (A : Accepted L) where
  -- the reduction of x has come to y after i steps, with the sum `saved` so far; Q has become shorter by i at least
  pub record ComesTo (x y : Ideals L A) (i saved : ℕ) : Type 0 where
    pub standard : Standard (K L) (setting L A) y
    pub onward : (z : Ideals L A) (more : ℕ) → Reduces (K L) (setting L A) y z more → Reduces (K L) (setting L A) x z (saved + more)
    pub shorter : (K L).len y.Q + i ≤ A.m + A.m
    pub little : saved + (K L).len y.Q ≤ A.m + A.m

-- the reduction of a, which may be as long as a product of two reduced ideals, has come to b after i steps
pub record Came (M : Meaning) (s : Setting) (a b : Ideal) (i saved : ℕ) : Type 0 where
  pub comes : (L : Lawful M) (A : Accepted L) (x : Ideals L A) → SettingIs L A s → IdealIs L A a x
      → Standard (K L) (setting L A) x → (K L).len x.Q ≤ A.m + A.m
      → (y : Ideals L A) × ComesTo L A x y i saved × IdealIs L A b y

pub starts : (M : Meaning) (s : Setting) (a : Ideal) → Came M s a a 0 0
starts M s a = record {
  comes = λ L A x hs hx tidy small. (
    x,
    record {
      standard = tidy;
      onward = λ z more h. subst (λ (n : ℕ). Reduces (K L) (setting L A) x z n) (omega arith) h;
      shorter = omega arith;
      little = omega arith;
    },
    hx,
  );
}

-- one step more, of an ideal that is not yet reduced; nothing saturates
module _ {M : Meaning} (L : Lawful M) (A : Accepted L) (x y z : Ideals L A) (i saved far : ℕ) (c : ComesTo L A x y i saved)
    (big : A.m + 1 ≤ (K L).len y.Q) (σ : StepTo (K L) (setting L A) y z far) where
  abbrev now : ℕ
  now = saved + ((K L).len y.Q - far)

  steps_on : (w : Ideals L A) (more : ℕ) → Reduces (K L) (setting L A) z w more → Reduces (K L) (setting L A) x w (now + more)
  steps_on w more h =
      let l = step_big (K L) (setting L A) σ big in
      subst (λ (n : ℕ). Reduces (K L) (setting L A) x w n) (omega arith)
      (c.onward w ((K L).len y.Q - far + more) (reduce big σ (omega arith) h))

  come_on : ComesTo L A x z (i + 1) now
  come_on =
      let l = step_big (K L) (setting L A) σ big in
      let t = step_short (K L) (setting L A) σ big in
      let f = step_falls (K L) (setting L A) σ big in
      let u = c.shorter in
      let v = c.little in
      record { standard = σ.standard_to.standard; onward = steps_on; shorter = omega arith; little = omega arith }

pub goes_on : {M : Meaning} {s : Setting} {a b c : Ideal} {i saved far next : ℕ} → Came M s a b i saved → s.half < size b.q → Stepped M s b c far
    → (saved + (size b.q - far) ≤ 50 → next ≡ saved + (size b.q - far)) → Came M s a c (i + 1) next
goes_on {b = b} {i = i} {saved = saved} {far = far} {next = next} came big step sum = record {
  comes = λ L A x hs hx tidy small.
      let (y, cy, hy) = came.comes L A x hs hx tidy small in
      let l = size_is L hy.Q_is in
      let m = hs.m_is in
      let h = A.high in
      let u = cy.shorter in
      let v = cy.little in
      let (z, σ, hz) = step L A y hs hy cy.standard (omega arith) in
      let e : saved + ((K L).len y.Q - far) ≡ next = omega (arith, sum (omega arith)) in
      (z, subst (λ (n : ℕ). ComesTo L A x z (i + 1) n) e (come_on L A x y z i saved far cy (omega arith) σ), hz);
}

stops : {M : Meaning} (L : Lawful M) (A : Accepted L) (x y : Ideals L A) (i saved : ℕ) → ComesTo L A x y i saved → (K L).len y.Q ≤ A.m → Reduces (K L) (setting L A) x y saved
stops L A x y i saved c h = subst (λ (n : ℕ). Reduces (K L) (setting L A) x y n) (omega arith) (c.onward y 0 (reduced h))

-- it ends where Q is short enough
pub arrives : {M : Meaning} {s : Setting} {a b : Ideal} {i saved : ℕ} → Came M s a b i saved → size b.q ≤ s.half → Reduced M s a b saved
arrives {i = i} {saved = saved} came short L A x hs hx tidy small =
    let (y, cy, hy) = came.comes L A x hs hx tidy small in
    let l = size_is L hy.Q_is in
    let m = hs.m_is in
    (y, stops L A x y i saved cy (omega arith), hy)

-- as it is after m steps
pub ends : {M : Meaning} {s : Setting} {a b : Ideal} {i saved : ℕ} → Came M s a b i saved → s.half ≤ i → Reduced M s a b saved
ends {i = i} {saved = saved} came late L A x hs hx tidy small =
    let (y, cy, hy) = came.comes L A x hs hx tidy small in
    let m = hs.m_is in
    let u = cy.shorter in
    (y, stops L A x y i saved cy (omega arith), hy)
