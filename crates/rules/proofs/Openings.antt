-- What an end is throughout an opening.
use Rattle.std.proofs.Common.{rules, ◌≡◌, ℕ, zero, suc, ◌<◌, ◌≤◌, ◌≢◌, ◌⊎◌, List, sym, refl, ◌∙◌, subst, inl, inr, arith}
use mathlib.Core.Path.{subst₃}
use native.Mathlib.Decide.{dec_le, dec_lt}
use Rattle.field.specs.Meaning.{Meaning, Lawful}
use Rattle.rules.specs.Questions.{Answer, accepted, refused}
use Rattle.rules.specs.Packets.{number}
use Rattle.rules.specs.Settings.{Accepted, Ideals, unit_ideal, Closest}
use Rattle.rules.specs.Ends.{State, ready, opened, keyed, Call, load, «open», tell, take, key, close, questions, Does}
use Rattle.rules.specs.Runs.{Side, left, right, Run, Calls, Opening, Within}
use Rattle.rules.proofs.Answering.{answers_hold}
use Rattle.rules.proofs.Offered.{closest_unique}

pub side? : (σ τ : Side) → Dec (σ ≡ τ)
side? left left = yes refl
side? left right = no (search rules)
side? right left = no (search rules)
side? right right = yes refl

module _ {M : Meaning} (L : Lawful M) (A : Accepted L) where
  -- open or keyed, with this ideal and this own distance
  abbrev pub Inside : Ideals L A → ℕ → State L → Type 0
  Inside a δ s = (s ≡ opened A a δ) ⊎ ((k : Ideals L A) × (s ≡ keyed A a δ k))

  -- a keyed end keeps its key until it is closed
  keyed_stays : (a k : Ideals L A) (δ : ℕ) (c : Call) (ans : Answer) (w : List ℕ) (s : State L)
      → Does L (keyed A a δ k) c ans w s → c ≢ close → s ≡ keyed A a δ k
  keyed_stays a k δ c (refused n) w s d h = d.after.1
  keyed_stays a k δ (load x) accepted w s d h = absurd (answers_hold (questions L (keyed A a δ k) (load x)) d.answer).0
  keyed_stays a k δ («open» x) accepted w s d h = absurd (answers_hold (questions L (keyed A a δ k) («open» x)) d.answer).0
  keyed_stays a k δ (tell x) accepted w s d h = d.after.1
  keyed_stays a k δ (take x) accepted w s d h = absurd d.after.1
  keyed_stays a k δ (key x) accepted w s d h = d.after.1
  keyed_stays a k δ close accepted w s d h = absurd (h refl)

  -- an open end stays open or gets keyed
  opened_goes : (a : Ideals L A) (δ : ℕ) (c : Call) (ans : Answer) (w : List ℕ) (s : State L)
      → Does L (opened A a δ) c ans w s → c ≢ close → Inside a δ s
  opened_goes a δ c (refused n) w s d h = inl d.after.1
  opened_goes a δ (load x) accepted w s d h = absurd (answers_hold (questions L (opened A a δ) (load x)) d.answer).0
  opened_goes a δ («open» x) accepted w s d h = absurd d.after.1
  opened_goes a δ (tell x) accepted w s d h = inl d.after.1
  opened_goes a δ (take x) accepted w s d h = let (k, h, e) = d.after.1 in inr (k, e)
  opened_goes a δ (key x) accepted w s d h = absurd (answers_hold (questions L (opened A a δ) (key x)) d.answer).0
  opened_goes a δ close accepted w s d h = absurd (h refl)

  module _ (run : Run L A) (σ : Side) where
    abbrev Quiet : ℕ → Type 0
    Quiet j = (run.event j).side ≡ σ → (run.event j).call ≢ close

    pub calls_does : (i : ℕ) (c : Call) (ans : Answer) → Calls L A run σ i c ans
        → Does L (run.end σ i) c ans (run.event i).written (run.end σ (suc i))
    calls_does i c ans k = subst₃ (λ τ x y. Does L (run.end τ i) x y (run.event i).written (run.end τ (suc i)))
        k.here k.call_is k.answer_is (run.moves i k.happens)

    keyed_step : (a k : Ideals L A) (δ j : ℕ) → j < run.count → Quiet j → run.end σ j ≡ keyed A a δ k → run.end σ (suc j) ≡ keyed A a δ k
    keyed_step a k δ j l q e = elim (side? (run.event j).side σ) [
      | yes s ↦ keyed_stays a k δ (run.event j).call (run.event j).answer (run.event j).written (run.end σ (suc j))
          (rw (sym e, sym s) (run.moves j l)) (q s)
      | no n ↦ run.rests j σ l n ∙ e
    ]

    inside_step : (a : Ideals L A) (δ j : ℕ) → j < run.count → Quiet j → Inside a δ (run.end σ j) → Inside a δ (run.end σ (suc j))
    inside_step a δ j l q (inl e) = elim (side? (run.event j).side σ) [
      | yes s ↦ opened_goes a δ (run.event j).call (run.event j).answer (run.event j).written (run.end σ (suc j))
          (rw (sym e, sym s) (run.moves j l)) (q s)
      | no n ↦ inl (run.rests j σ l n ∙ e)
    ]
    inside_step a δ j l q (inr (k, e)) = inr (k, keyed_step a k δ j l q e)

    -- keyed from i on, up to j
    pub keyed_until : (a k : Ideals L A) (δ i j : ℕ) → i ≤ j → j ≤ run.count → ((n : ℕ) → i ≤ n → n < j → Quiet n)
        → run.end σ i ≡ keyed A a δ k → run.end σ j ≡ keyed A a δ k
    keyed_until a k δ i zero g l q e = let z : i ≡ 0 = omega arith in subst (λ n. run.end σ n ≡ keyed A a δ k) z e
    keyed_until a k δ i (suc j) g l q e = elim (dec_le i j) [
      | yes h ↦ keyed_step a k δ j (omega arith) (q j h (omega arith)) (keyed_until a k δ i j h (omega arith) (λ n x y. q n x (omega arith)) e)
      | no h ↦ (let z : i ≡ suc j = omega arith in subst (λ n. run.end σ n ≡ keyed A a δ k) z e)
    ]

    -- inside from b on, up to j
    inside_until : (a : Ideals L A) (δ b j : ℕ) → b < j → j ≤ run.count → ((n : ℕ) → b < n → n < j → Quiet n)
        → run.end σ (suc b) ≡ opened A a δ → Inside a δ (run.end σ j)
    inside_until a δ b zero g l q e = absurd (omega arith)
    inside_until a δ b (suc j) g l q e = elim (dec_lt b j) [
      | yes h ↦ inside_step a δ j (omega arith) (q j h (omega arith)) (inside_until a δ b j h (omega arith) (λ n x y. q n x (omega arith)) e)
      | no h ↦ (let z : suc b ≡ suc j = omega arith in inl (subst (λ n. run.end σ n ≡ opened A a δ) z e))
    ]

    -- an opening begins with the ideal closest to the left of the secret number, and it is not (1)
    pub opening_begins : (b : ℕ) (secret : List ℕ) → Opening L A run σ b secret
        → (a : Ideals L A) × (δ : ℕ) × Closest L A (number secret) a δ × (a ≢ unit_ideal L A) × (run.end σ (suc b) ≡ opened A a δ)
    opening_begins b secret o =
        let d : Does L (ready A) («open» secret) accepted (run.event b).written (run.end σ (suc b))
        = rw (sym o.same) (calls_does b («open» secret) accepted o.begins) in
        let h = answers_hold (questions L (ready A) («open» secret)) d.answer in
        let (c, ε, cl, n) = h.1.1.0 in
        let (a, δ, ca, e) = d.after.1 in
        (a, δ, ca, (λ z. n ((closest_unique L A (number secret) ε δ c a cl ca).0 ∙ z)), e)

    -- and keeps it
    pub opening_keeps : (a : Ideals L A) (δ b i : ℕ) → Within L A run σ b i → i < run.count → run.end σ (suc b) ≡ opened A a δ
        → Inside a δ (run.end σ i)
    opening_keeps a δ b i w l e = inside_until a δ b i w.later (omega arith) (λ n x y. w.lasts n x (omega arith)) e
