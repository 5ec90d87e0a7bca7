-- The baby step.
use Rattle.std.proofs.Common.{◌≡◌, ℕ, ◌+◌, ◌<◌, ◌≤◌, sym, refl, ◌∙◌, subst, arith}
use Rattle.field.specs.Meaning.{Meaning, Lawful}
use Rattle.ring.proofs.Ring.{Divides}
use Rattle.ring.proofs.Lengths.{len_sub}
use Rattle.algebra.specs.Codes.{R, K}
use Rattle.algebra.specs.Steps.{BabyStep}
use Rattle.algebra.proofs.Ideal.{step_turn, step_split}
use Rattle.algebra.proofs.Step.{baby_alive, baby_exact}
use Rattle.rules.specs.Settings.{Accepted, setting, Ideals}
use Rattle.poly.specs.Values.{size, Is}
use Rattle.poly.specs.Rules.{Sum, Difference, Division}
use Rattle.poly.specs.declared.poly.Poly.{Poly}
use Rattle.ideal.specs.Parts.{Cofactor}
use Rattle.ideal.specs.Results.{Standardized, Stepped}
use Rattle.ideal.specs.declared.setting.Setting.{Setting}
use Rattle.ideal.specs.declared.ideal.Ideal.{Ideal}
use Rattle.ideal.proofs.Records.{size_is, sum_is, difference_is, division_is}

-- from the division P + d = k·Q + s
module _ {M : Meaning} (L : Lawful M) (A : Accepted L) (x : Ideals L A) (k s : R L)
    (division : (K L).r.◌⊕◌ x.P A.d ≡ (K L).r.◌⊕◌ ((K L).r.◌⊗◌ k x.Q) s) (short : (K L).len s < (K L).len x.Q) where
  infixl 60 ◌⊕◌
  infixl 70 ◌⊗◌
  infix 80 ⊖◌
  open K L use {r, len}
  open (K L).r use {◌⊕◌, ⊖◌, ◌⊗◌, ⊗-comm}

  abbrev P₁ : R L
  P₁ = A.d ⊕ ⊖ s

  -- P₁·P₁ fits
  square_len : len x.Q ≤ A.m + A.m → len P₁ + len P₁ ≤ 129
  square_len h =
      let a = A.d_len in
      let b = A.low in
      let c = A.high in
      omega (arith, len_sub (K L) A.d s (A.m + A.m) (omega arith) (omega arith))

  -- Q divides D − P₁·P₁
  split : Divides r x.Q (A.D ⊕ ⊖ (P₁ ⊗ P₁))
  split =
      let t = step_split r A.D x.Q x.P P₁ k (step_turn r x.Q x.P A.d k s division) x.exact in
      (t.0, sym t.1 ∙ ⊗-comm x.Q t.0)

  abbrev step_by : (Q₁ : R L) → A.D ⊕ ⊖ (P₁ ⊗ P₁) ≡ Q₁ ⊗ x.Q → BabyStep (K L) (setting L A) x.Q x.P Q₁ P₁
  step_by Q₁ e = record {
    k = k;
    s = s;
    alive = x.alive;
    division = division;
    short = short;
    next = refl;
    split = ⊗-comm x.Q Q₁ ∙ sym e;
  }

pub stepped : {M : Meaning} {s : Setting} {a b : Ideal} {root sum k r p q twice : Poly} {far : ℕ}
    → root ≡ s.root → Sum M a.p root sum → Division M sum a.q k r → (0 < size a.q → size r < size a.q) → Difference M root r p
    → Cofactor M s p a.q q → Sum M p root twice → far ≡ size twice → Standardized M q p b → Stepped M s a b far
stepped e sum division less next cofactor twice far standard L A x hs hx tidy small =
    let hd = subst (λ (v : Poly). Is L v A.d) (sym e) hs.d_is in
    let t = division_is L division less (sum_is L sum hx.P_is hd) hx.Q_is x.alive in
    let P : R L = P₁ L A x t.k t.s t.sums t.short in
    let P_is = difference_is L next hd t.s_is in
    let c = cofactor L A P x.Q hs P_is hx.Q_is (square_len L A x t.k t.s t.sums t.short small) x.alive
    (split L A x t.k t.s t.sums t.short) in
    let σ = step_by L A x t.k t.s t.sums t.short c.w c.exact in
    let (y, form, hy) = standard L A c.w P c.is P_is
    (baby_alive (K L) (setting L A) x.Q x.P c.w P σ) (baby_exact (K L) (setting L A) x.Q x.P c.w P σ) in
    (y, record { Q₁ = c.w; P₁ = P; steps_to = σ; standard_to = form; far_is = far ∙ sym (size_is L (sum_is L twice P_is hd)) }, hy)
