-- The rules fix the answer, the bytes written and the end left behind.
use Rattle.std.proofs.Common.{◌≡◌, ℕ, ◌+◌, ◌≤◌, List, sym, refl, ap, ◌∙◌, subst, ap₂, arith}
use mathlib.Core.HLevel.{Discrete, hedberg, is_prop→PathP, Π_prop}
use mathlib.Core.Logic.Dec
use native.Mathlib.Bridge.{le_prop}
use native.Mathlib.Decide.{ℕ_discrete}
use Rattle.std.proofs.Math.Nat.{ℕ_set}
use Rattle.field.specs.Meaning.{Meaning, Lawful}
use Rattle.algebra.specs.Codes.{Code, code_ext, R, K}
use Rattle.algebra.proofs.Settings.{root_unique}
use Rattle.algebra.proofs.Unique.{ideal_path}
use Rattle.algebra.proofs.Multiples.{times_unique}
use Rattle.algebra.specs.Places.{Times, Place, place}
use Rattle.rules.specs.Questions.{Answer, accepted, refused}
use Rattle.rules.specs.Packets.{number}
use Rattle.rules.specs.Settings.{unit, Monic, Coprime, Accepted, setting, Ideals}
use Rattle.rules.specs.Ends.{State, blank, ready, opened, keyed, Call, load, «open», tell, take, key, close, questions, After, KeyIs, OpenLeaves, TakeLeaves, Does}
use Rattle.rules.proofs.Answering.{answers_unique}
use Rattle.rules.proofs.Offered.{closest_unique}

module _ {M : Meaning} (L : Lawful M) where
  infixl 60 ◌⊕◌
  infixl 70 ◌⊗◌
  infix 80 ⊖◌
  open K L use {r, len, coef, der}
  open (K L).r use {◌⊕◌, ⊖◌, ◌⊗◌}

  pub code? : Discrete (Code M)
  code? a b = Dec.of_iff (code_ext a b, ap (λ (c : Code M). c.num)) (ℕ_discrete a.num b.num)

  monic_prop : (p : R L) → IsProp (Monic L p)
  monic_prop p (n, e, t) (k, f, u) = λ i. (
    nk i,
    is_prop→PathP (λ j. len p ≡ nk j + 1) (λ j. ℕ_set (len p) (nk j + 1)) e f i,
    is_prop→PathP (λ j. coef p (nk j) ≡ unit L) (λ j. hedberg code? (coef p (nk j)) (unit L)) t u i,
  )
    where
      nk : n ≡ k
      nk = omega arith

  coprime_prop : (p q : R L) → IsProp (Coprime L p q)
  coprime_prop p q = Π_prop (λ g. Π_prop (λ h. Π_prop (λ i. ℕ_set (len g) 1)))

  -- D has one setting
  pub accepted_path : (A B : Accepted L) → A.D ≡ B.D → A ≡ B
  accepted_path A B e = λ i. record {
    D = e i;
    m = mm i;
    d = dd i;
    low = is_prop→PathP (λ j. 2 ≤ mm j) (λ j. le_prop) A.low B.low i;
    high = is_prop→PathP (λ j. mm j ≤ 25) (λ j. le_prop) A.high B.high i;
    D_len = is_prop→PathP (λ j. len (e j) ≡ mm j + mm j + 1) (λ j. ℕ_set (len (e j)) (mm j + mm j + 1)) A.D_len B.D_len i;
    D_monic = is_prop→PathP (λ j. Monic L (e j)) (λ j. monic_prop (e j)) A.D_monic B.D_monic i;
    plain = is_prop→PathP (λ j. Coprime L (e j) (der (e j))) (λ j. coprime_prop (e j) (der (e j))) A.plain B.plain i;
    d_len = is_prop→PathP (λ j. len (dd j) ≡ mm j + 1) (λ j. ℕ_set (len (dd j)) (mm j + 1)) A.d_len B.d_len i;
    d_monic = is_prop→PathP (λ j. Monic L (dd j)) (λ j. monic_prop (dd j)) A.d_monic B.d_monic i;
    near = is_prop→PathP (λ j. len (e j ⊕ ⊖ (dd j ⊗ dd j)) ≤ mm j) (λ j. le_prop) A.near B.near i;
  }
    where
      mm : A.m ≡ B.m
      mm = omega (arith, A.D_len, B.D_len, ap len e)

      top : (C : Accepted L) → C.m ≡ B.m → coef C.d B.m ≡ unit L
      top C q = let (n, l, t) = C.d_monic in
          let z : n ≡ B.m = omega (arith, C.d_len) in rw (sym z) t

      dd : A.d ≡ B.d
      dd = root_unique (K L) B.D A.d B.d B.m (omega (arith, A.d_len, mm)) B.d_len (top A mm ∙ sym (top B refl))
          (rw (sym e) (omega (arith, A.near, mm))) B.near

  pub key_unique : (A : Accepted L) (δ : ℕ) (x : List ℕ) (k l : Ideals L A) → KeyIs L A δ x k → KeyIs L A δ x l → k ≡ l
  key_unique A δ x k l (b, h, (f, μ)) (c, g, (f', ν)) =
      let e : b ≡ c = ideal_path (K L) (setting L A) b c (h.0 ∙ sym g.0) (h.1 ∙ sym g.1) in
      ap (λ (p : Place (K L) (setting L A)). p.ideal)
      (times_unique (K L) (setting L A) δ (place (K L) (setting L A) c 0) (place (K L) (setting L A) k f) (place (K L) (setting L A) l f')
      (subst (λ (z : Ideals L A). Times (K L) (setting L A) (place (K L) (setting L A) z 0) δ (place (K L) (setting L A) k f)) e μ) ν)

  open_unique : (s : State L) (n : List ℕ) (t u : State L) → OpenLeaves L s n t → OpenLeaves L s n u → t ≡ u
  open_unique blank n t u h g = absurd h
  open_unique (ready A) n t u (a, δ, ca, e) (b, ε, cb, f) =
      let (p, q) = closest_unique L A (number n) δ ε a b ca cb in
      e ∙ ap₂ (λ (x : Ideals L A) (y : ℕ). opened A x y) p q ∙ sym f
  open_unique (opened A a δ) n t u h g = absurd h
  open_unique (keyed A a δ k) n t u h g = absurd h

  take_unique : (s : State L) (x : List ℕ) (t u : State L) → TakeLeaves L s x t → TakeLeaves L s x u → t ≡ u
  take_unique blank n t u h g = absurd h
  take_unique (ready A) n t u h g = absurd h
  take_unique (opened A a δ) x t u (k, h, e) (l, g, f) = e ∙ ap (λ (z : Ideals L A). keyed A a δ z) (key_unique A δ x k l h g) ∙ sym f
  take_unique (keyed A a δ k) n t u h g = absurd h

  after_unique : (s : State L) (c : Call) (ans : Answer) (w v : List ℕ) (t u : State L) → After L s c ans w t → After L s c ans v u → (w ≡ v) × (t ≡ u)
  after_unique s c (refused n) w v t u h g = (h.0 ∙ sym g.0, h.1 ∙ sym g.1)
  after_unique s (load x) accepted w v t u (A, e, p, q) (B, f, p', q') =
      (p ∙ sym p', q ∙ ap (λ (C : Accepted L). ready C) (accepted_path A B (e ∙ sym f)) ∙ sym q')
  after_unique s («open» x) accepted w v t u h g = (h.0 ∙ sym g.0, open_unique s x t u h.1 g.1)
  after_unique s (tell x) accepted w v t u h g = (h.0 ∙ sym g.0, h.1 ∙ sym g.1)
  after_unique s (take x) accepted w v t u h g = (h.0 ∙ sym g.0, take_unique s x t u h.1 g.1)
  after_unique s (key x) accepted w v t u h g = (h.0 ∙ sym g.0, h.1 ∙ sym g.1)
  after_unique s close accepted w v t u h g = (h.0 ∙ sym g.0, h.1 ∙ sym g.1)

  -- one answer, one string of bytes, one end
  pub does_unique : (s : State L) (c : Call) (a b : Answer) (w v : List ℕ) (t u : State L) → Does L s c a w t → Does L s c b v u
      → (a ≡ b) × (w ≡ v) × (t ≡ u)
  does_unique s c a b w v t u h g =
      let e = answers_unique (questions L s c) a b h.answer g.answer in
      let (p, q) = after_unique s c b w v t u (subst (λ x. After L s c x w t) e h.after) g.after in
      (e, p, q)
