use Rattle.std.proofs.Common.{◌≡◌, ℕ, List, ◌++◌, length, drop, get_or, replicate, sym, ap, ◌∙◌, ⊎_elim, arith}
use Rattle.std.proofs.lemmas.List.{get_or_past, get_or_append_left}
use Rattle.std.proofs.lemmas.Bool.{cases_lt}
use Rattle.std.proofs.lemmas.Grind.{common_steps}
use Rattle.poly.specs.Values.{at}
use Rattle.poly.proofs.Bridge.{listed}
use Rattle.poly.proofs.Zeros.{over_zeros}
use Rattle.poly.proofs.poly.lists.PolyTryFromRefSliceU32.try_from.Goals as goal

placed : (cs xs : List ℕ) → xs ≡ cs → (k : ℕ) → get_or (xs ++ drop (length cs) (replicate 128 0)) k 0 ≡ get_or cs k 0
placed cs xs e k = ⊎_elim
    (λ h. get_or_append_left xs (drop (length cs) (replicate 128 0)) 0 k (omega (arith, ap length e)) ∙ ap (λ l. get_or l k 0) e)
    (λ h. over_zeros xs (length cs) k (ap length e) h ∙ sym (get_or_past cs k 0 h)) (cases_lt k (length cs))

pub normal-requires-clause-ended : goal.normal-requires-clause-ended
normal-requires-clause-ended c = λ k h. over_zeros c.copy_from_slice.new.self (length c.args.codes.now) k (grind (arith, common_steps)) h

pub returns : goal.returns
returns c =
    let h : (k : ℕ) → at c.normal.result k ≡ get_or c.args.codes.now k 0 = λ k. ap (λ xs. get_or xs k 0) c.normal.ensures
    ∙ placed c.args.codes.now c.copy_from_slice.new.self (grind (arith, common_steps)) k in
    (omega arith, h, listed c.args.codes.now c.normal.result h)
