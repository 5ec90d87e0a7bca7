-- Loops that go over a slice from its last element down, and count.
use Rattle.std.proofs.Common.{◌≡◌, ℕ, ◌+◌, ◌<◌, List, reverse, length, get_or, Some, None, Option, ap, ◌∙◌, Bor, arith}
use lib.ListN.{length-reverse}
use Rattle.std.specs.Iterator.{Yields}
use Rattle.std.specs.List.{enumerate_from}
use Rattle.std.specs.Iterator.Adapters.{rev_source, rev_steps, enumerate_source, enumerate_count, enumerate_steps}
use Rattle.std.specs.Slice.Iter.{iter_rest, iter_steps_back}
use Rattle.std.specs.declared.iter.Enumerate.{Enumerate}
use Rattle.std.specs.declared.iter.Rev.{Rev}
use Rattle.std.specs.declared.slice.Iter.{Iter}
use Rattle.std.proofs.lemmas.Iterator.{YieldsList}
use Rattle.std.proofs.lemmas.Iterator.Adapters.{YieldsList-from_rev_slice}
use Rattle.std.proofs.lemmas.Iterator.Consumers.{YieldsList-from_enumerate, YieldsList-turn, YieldsList-end}
use Rattle.std.proofs.lemmas.List.FromFn.{length-enumerate_from, get_or-enumerate_from}

chain : {A : Type 0} (xs : List A) (s : Enumerate (Rev (Iter A))) → iter_rest (rev_source (enumerate_source s)) ≡ xs → enumerate_count s ≡ 0
    → YieldsList {B = ℕ × A} (enumerate_steps (rev_steps iter_steps_back)) (λ p. (p.0, p.1.now)) s (enumerate_from 0 (reverse xs))
chain xs s whole none = YieldsList-from_enumerate (YieldsList-from_rev_slice xs whole) none

module _ {A : Type 0} (xs : List A) (s : Enumerate (Rev (Iter A))) (whole : iter_rest (rev_source (enumerate_source s)) ≡ xs) (none : enumerate_count s ≡ 0)
    (ys : List (ℕ × Bor A)) (t : Enumerate (Rev (Iter A))) (y : Yields (enumerate_steps (rev_steps iter_steps_back)) s ys t) (r : Option (ℕ × Bor A)) (u : Enumerate (Rev (Iter A))) where
  pub down_turn : (p : ℕ × Bor A) → r ≡ Some p → enumerate_steps (rev_steps iter_steps_back) t r u
      → (length ys < length xs) × (p.0 ≡ length ys) × (p.1.now ≡ get_or (reverse xs) (length ys) p.1.now)
  down_turn p e h =
      let k = YieldsList-turn (chain xs s whole none) ys t y r u p e h in
      let l : length ys < length xs = omega (arith, k.0, length-enumerate_from 0 (reverse xs), length-reverse xs) in
      let z : 0 + length ys ≡ length ys = omega arith in
      let f : (p.0, p.1.now) ≡ (0 + length ys, get_or (reverse xs) (length ys) p.1.now) = k.1 ∙ get_or-enumerate_from 0 (reverse xs) (length ys) (p.0, p.1.now) (omega (arith, length-reverse xs)) in
      (l, ap (λ (q : ℕ × A). q.0) f ∙ z, ap (λ (q : ℕ × A). q.1) f)

  pub down_end : r ≡ None → enumerate_steps (rev_steps iter_steps_back) t r u → length ys ≡ length xs
  down_end e h = (YieldsList-end (chain xs s whole none) ys t y r u e h).1 ∙ length-enumerate_from 0 (reverse xs) ∙ length-reverse xs
