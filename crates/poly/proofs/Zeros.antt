-- A list of zeros, and where a list ends.
use Rattle.std.proofs.Common.{◌≡◌, ℕ, zero, suc, ◌<◌, ◌≤◌, ◌+◌, ◌-◌, List, [], ◌∷◌, ◌++◌, length, drop, get_or, set, replicate, sym, refl, ◌∙◌, subst, ⊎_elim, arith, get_or-set_other}
use Rattle.std.proofs.lemmas.List.{get_or_past, get_or-append_right, get_or-drop}
use Rattle.std.proofs.lemmas.Bool.{cases_lt}
use native.Mathlib.Decide.{ℕ_discrete}

pub zeros : (n k : ℕ) → ◌≡◌ {A = ℕ} (get_or (replicate n 0) k 0) 0
zeros zero k = refl
zeros (suc n) zero = refl
zeros (suc n) (suc k) = zeros n k

-- equal below n, and both 0 from n on: equal everywhere
pub same_all : (xs ys : List ℕ) (n : ℕ) → ((k : ℕ) → k < n → get_or xs k 0 ≡ get_or ys k 0) → ((k : ℕ) → n ≤ k → get_or xs k 0 ≡ 0) → length ys ≤ n → (k : ℕ) → get_or xs k 0 ≡ get_or ys k 0
same_all xs ys n below above short k =
    ⊎_elim (below k) (λ h. above k h ∙ sym (get_or_past ys k 0 (omega arith))) (cases_lt k n)

-- a list over zeros, as a write to the front of an array of zeros leaves it
pub over_zeros : (xs : List ℕ) (n k : ℕ) → length xs ≡ n → n ≤ k → get_or (xs ++ drop n (replicate 128 0)) k 0 ≡ 0
over_zeros xs n k e h = get_or-append_right xs (drop n (replicate 128 0)) n k 0 e h ∙ get_or-drop n (replicate 128 0) (k - n) 0 ∙ zeros 128 (n + (k - n))

pub set_zero : (xs : List ℕ) (k : ℕ) → get_or (set xs k 0) k 0 ≡ 0
set_zero [] k = refl
set_zero (x ∷ xs) zero = refl
set_zero (x ∷ xs) (suc k) = set_zero xs k

-- 0 past j, and then at j too
pub set_gone : (xs : List ℕ) (j : ℕ) → ((k : ℕ) → j < k → get_or xs k 0 ≡ 0) → (k : ℕ) → j ≤ k → get_or (set xs j 0) k 0 ≡ 0
set_gone xs j h k l = go (ℕ_discrete k j)
  where
    go : Dec (k ≡ j) → get_or (set xs j 0) k 0 ≡ 0
    go (yes e) = subst (λ (n : ℕ). get_or (set xs j 0) n 0 ≡ 0) (sym e) (set_zero xs j)
    go (no e) = rw get_or-set_other (h k (omega arith))
