-- Runs grow by one event at a time: from the run in which nothing has happened yet, by what one end does next.
use Rattle.std.proofs.Common.{◌≡◌, ℕ, suc, ◌<◌, ◌≤◌, ◌≢◌, [], sym, refl, ◌∙◌, arith}
use mathlib.Core.Logic.{ite, if_pos, if_neg}
use native.Mathlib.Decide.{dec_le, dec_lt}
use Rattle.field.specs.Meaning.{Meaning, Lawful}
use Rattle.rules.specs.Settings.{Accepted}
use Rattle.rules.specs.Ends.{State, ready, close, Does}
use Rattle.rules.specs.Questions.{accepted}
use Rattle.rules.specs.Runs.{Side, left, Event, Run}
use Rattle.rules.proofs.Openings.{side?}

module _ {M : Meaning} (L : Lawful M) (A : Accepted L) where
  -- nothing has happened yet
  abbrev pub empty_run : Run L A
  empty_run = record {
    count = 0;
    event = λ i. record { side = left; call = close; answer = accepted; written = [] };
    end = λ σ i. ready A;
    starts = λ σ. refl;
    moves = λ i h. absurd (omega arith);
    rests = λ i σ h n. refl;
  }

  module _ (run : Run L A) (ev : Event) (s : State L)
      (does : Does L (run.end ev.side run.count) ev.call ev.answer ev.written s) where
    unfoldable pub event_then : ℕ → Event
    event_then i = ite (dec_lt i run.count) (run.event i) ev

    unfoldable pub moved : Side → State L
    moved σ = ite (side? ev.side σ) s (run.end σ run.count)

    unfoldable pub end_then : Side → ℕ → State L
    end_then σ i = ite (dec_le i run.count) (run.end σ i) (moved σ)

    pub event_old : (i : ℕ) → i < run.count → event_then i ≡ run.event i
    unfolding event_then
    event_old i h = if_pos (dec_lt i run.count) h (run.event i) ev

    pub event_new : event_then run.count ≡ ev
    unfolding event_then
    event_new = if_neg (dec_lt run.count run.count) (λ h. omega arith) (run.event run.count) ev

    pub end_old : (σ : Side) (i : ℕ) → i ≤ run.count → end_then σ i ≡ run.end σ i
    unfolding end_then
    end_old σ i h = if_pos (dec_le i run.count) h (run.end σ i) (moved σ)

    end_new : (σ : Side) → end_then σ (suc run.count) ≡ moved σ
    unfolding end_then
    end_new σ = if_neg (dec_le (suc run.count) run.count) (λ h. omega arith) (run.end σ (suc run.count)) (moved σ)

    -- the end that acted, and the other one
    pub end_acted : end_then ev.side (suc run.count) ≡ s
    unfolding moved
    end_acted = end_new ev.side ∙ if_pos (side? ev.side ev.side) refl s (run.end ev.side run.count)

    pub end_rested : (σ : Side) → ev.side ≢ σ → end_then σ (suc run.count) ≡ run.end σ run.count
    unfolding moved
    end_rested σ n = end_new σ ∙ if_neg (side? ev.side σ) n s (run.end σ run.count)

    pub moves_then : (i : ℕ) → i < suc run.count
        → Does L (end_then (event_then i).side i) (event_then i).call (event_then i).answer (event_then i).written (end_then (event_then i).side (suc i))
    moves_then i h = go (dec_lt i run.count)
      where
        go : Dec (i < run.count)
            → Does L (end_then (event_then i).side i) (event_then i).call (event_then i).answer (event_then i).written (end_then (event_then i).side (suc i))
        go (yes g) = rw (event_old i g, end_old (run.event i).side i (omega arith), end_old (run.event i).side (suc i) (omega arith)) (run.moves i g)
        go (no n) = let z : i ≡ run.count = omega arith in rw (z, event_new, end_old ev.side run.count (omega arith), end_acted) does

    pub rests_then : (i : ℕ) (σ : Side) → i < suc run.count → (event_then i).side ≢ σ → end_then σ (suc i) ≡ end_then σ i
    rests_then i σ h n = go (dec_lt i run.count)
      where
        go : Dec (i < run.count) → end_then σ (suc i) ≡ end_then σ i
        go (yes g) = end_old σ (suc i) (omega arith)
            ∙ run.rests i σ g (λ e. n (rw (event_old i g) e)) ∙ sym (end_old σ i (omega arith))
        go (no k) = let z : i ≡ run.count = omega arith in
            rw z (end_rested σ (λ e. n (rw (z, event_new) e)) ∙ sym (end_old σ run.count (omega arith)))

    -- the run with one event more
    abbrev pub longer_run : Run L A
    longer_run = record {
      count = suc run.count;
      event = event_then;
      end = end_then;
      starts = λ σ. end_old σ 0 (omega arith) ∙ run.starts σ;
      moves = moves_then;
      rests = rests_then;
    }
