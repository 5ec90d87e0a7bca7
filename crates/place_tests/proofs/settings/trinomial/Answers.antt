use Rattle.std.proofs.Common.{ℕ, IfSome, MatchResult, ◌≡◌, ◌<◌, ◌≤◌, List, length, set, replicate, ◌∙◌, sym, subst, arith, length-set, get_or-set_other, get_or-set_same, slice_index}
use Rattle.poly.proofs.Zeros.{zeros}
use Rattle.poly.specs.Rules.{Listed}
use Rattle.poly.specs.Values.{at}
use Rattle.poly.specs.declared.poly.Poly.{Poly}
use Rattle.place_tests.specs.Settings.{Trinomial}
use Rattle.place_tests.proofs.Oks.{if_ok}
use Rattle.place_tests.proofs.settings.trinomial.Goals as goal

abbrev two_set : ℕ → List ℕ
two_set i = set (set (replicate 51 0) 0 1) 1 i

abbrev all_set : ℕ → ℕ → List ℕ
all_set n i = set (two_set i) n 1

three : (n i : ℕ) (p : Poly) → n ≤ 50 → ((k : ℕ) → at p k ≡ slice_index (all_set n i) k) → Trinomial n i p
three n i p small h large = (
  h 0 ∙ get_or-set_other (two_set i) n 0 1 0 (omega (arith, large)) ∙ get_or-set_other (set (replicate 51 0) 0 1) 1 0 i 0 (omega arith)
      ∙ get_or-set_same (replicate 51 0) 0 1 0 (omega arith),
  h 1 ∙ get_or-set_other (two_set i) n 1 1 0 (omega (arith, large))
      ∙ get_or-set_same (set (replicate 51 0) 0 1) 1 i 0 (omega (arith, length-set {A = ℕ} (replicate 51 0) 0 1)),
  h n ∙ get_or-set_same (two_set i) n 1 0 (omega (arith, small, length-set {A = ℕ} (replicate 51 0) 0 1, length-set {A = ℕ} (set (replicate 51 0) 0 1) 1 i)),
  λ k zero one top. h k ∙ get_or-set_other (two_set i) n k 1 0 top ∙ get_or-set_other (set (replicate 51 0) 0 1) 1 k i 0 one
      ∙ get_or-set_other (replicate 51 0) 0 k 1 0 zero ∙ zeros 51 k,
)

pub returns : goal.returns
returns c = subst (λ o. IfSome o (λ p. Trinomial c.args.degree c.args.i p)) (sym c.ok.ensures.value)
    (if_ok c.try_from.result
    (λ r. MatchResult r
    (λ p. (length (all_set c.args.degree c.args.i) ≤ 128) × ((k : ℕ) → at p k ≡ slice_index (all_set c.args.degree c.args.i) k) × Listed (all_set c.args.degree c.args.i) p)
    (λ _. 128 < length (all_set c.args.degree c.args.i)))
    (λ p. Trinomial c.args.degree c.args.i p) (λ p h. three c.args.degree c.args.i p c.if-degree-gt50.false h.1) c.try_from.ensures)
