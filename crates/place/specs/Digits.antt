-- What steps along binary digits lead to.
use Rattle.std.specs.Prelude.{ℕ, ◌+◌, ◌*◌, ◌≤◌}

-- a step of R for each binary digit of n, the highest first, with or without zeros in front, leads from the start to r
pub data Through {T : Type 0} (R : T → ℕ → T → Type 0) (start : T) : ℕ → T → Type 0 where
  stays : Through R start 0 start
  steps : {n digit : ℕ} {t r : T} → Through R start n t → digit ≤ 1 → R t digit r → Through R start (n * 2 + digit) r
