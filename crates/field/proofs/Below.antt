-- A rule for all numbers below a bound, by one test that is computed.
use Rattle.std.proofs.Common.{◌≡◌, ℕ, zero, suc, ◌<◌, ◌≤◌, Bool, true, ◌&&◌, sym, ap, ◌∙◌, ⊎_elim, arith}
use Rattle.std.proofs.lemmas.Bool.{and_parts, cases_lt}

-- every number below n passes the test
unfoldable pub every_below : (ℕ → Bool) → ℕ → Bool
every_below test zero = true
every_below test (suc n) = test n && every_below test n

pub at_below : (test : ℕ → Bool) (n k : ℕ) → every_below test n ≡ true → k < n → test k ≡ true
unfolding every_below
at_below test zero k h l = absurd (omega arith)
at_below test (suc n) k h l =
    let parts = and_parts (test n) (every_below test n) h in
    ⊎_elim (λ (b : k < n). at_below test n k parts.1 b)
    (λ (b : n ≤ k). let e : n ≡ k = omega arith in ap test (sym e) ∙ parts.0) (cases_lt k n)
