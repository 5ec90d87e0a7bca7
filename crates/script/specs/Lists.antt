-- The codes of a polynomial as an input gives them.
use Rattle.std.specs.Prelude.{◌≡◌, ℕ, ◌-◌, ◌<◌, ◌≤◌, List, length, take, slice_index}
use Rattle.poly.specs.Values.{at}
use Rattle.poly.specs.declared.poly.Poly.{Poly}
use Rattle.script.specs.declared.codes.Codes.{Codes}

-- the codes that were read, the one of the highest degree first
abbrev pub code_list : Codes → List ℕ
code_list c = take c.len c.list

-- p has these codes, the one of the highest degree first
abbrev pub Spelled : List ℕ → Poly → Type 0
Spelled cs p =
    ((k : ℕ) → k < length cs → at p k ≡ slice_index cs (length cs - 1 - k)) × ((k : ℕ) → length cs ≤ k → at p k ≡ 0)
