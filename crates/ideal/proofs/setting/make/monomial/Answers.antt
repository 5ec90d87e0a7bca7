use Rattle.std.proofs.Common.{replicate, Result, Ok, Err, IsOk, MatchResult, refl, ◌∙◌, arith, length-set, get_or-set_other, get_or-set_same}
use Rattle.poly.proofs.Zeros.{zeros}
use Rattle.ideal.proofs.setting.make.monomial.Goals as goal

-- where what an error says can't be, there is none
no_error : {T E : Type 0} (r : Result T E) (P : T → Type 0) (Q : Type 0) → ¬ Q → MatchResult r P (λ _. Q) → IsOk r
no_error (Ok x) P Q f h = refl
no_error (Err e) P Q f h = absurd (f h)

pub unwrap-requires : goal.unwrap-requires
unwrap-requires c = no_error c.try_from.result _ _ (λ l. omega (arith, l, length-set (replicate 26 0) c.args.i c.args.c)) c.try_from.ensures

pub returns : goal.returns
returns c = let h = rw c.unwrap.ensures at c.try_from.ensures in record {
  there = h.1 c.args.i ∙ get_or-set_same (replicate 26 0) c.args.i c.args.c 0 (let p = c.requires in omega arith);
  others = λ k n. h.1 k ∙ get_or-set_other (replicate 26 0) c.args.i k c.args.c 0 n ∙ zeros 26 k;
}
