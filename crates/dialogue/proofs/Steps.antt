-- A step of the rules, with its call, its answer and its bytes spelled in another way; and results that are refusals.
use Rattle.std.proofs.Common.{◌≡◌, ℕ, true, List, is_err, IfOk, Ok, Err, Result, sym, subst, arith}
use Rattle.field.specs.Meaning.{Meaning}
use Rattle.rules.specs.Questions.{Answer}
use Rattle.rules.specs.Ends.{Call}
use Rattle.end.specs.Results.{Follows}
use Rattle.end.specs.declared.end.End.{End}

pub respelled : {F : Type 0} (M : Meaning) (e e' : End F) (c d : Call) (a b : Answer) (w v : List ℕ)
    → c ≡ d → a ≡ b → w ≡ v → Follows M e d b v e' → Follows M e c a w e'
respelled M e e' c d a b w v p q r f =
    subst (λ (z : Call). Follows M e z a w e') (sym p)
    (subst (λ (z : Answer). Follows M e d z w e') (sym q)
    (subst (λ (z : List ℕ). Follows M e d b z e') (sym r) f))

-- of what was not made anything holds
pub unmade : {X Y : Type 0} (r : Result X Y) (P : X → Type 0) → is_err r ≡ true → IfOk r P
unmade (Ok x) P e = let z : ◌≡◌ {A = ℕ} 0 1 = cc in absurd (omega arith)
unmade (Err y) P e = tt
