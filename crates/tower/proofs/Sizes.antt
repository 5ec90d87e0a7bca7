-- How many elements a pile has.
use Rattle.std.proofs.Common.{◌≡◌, ℕ, ◌*◌, ◌<◌, ◌≤◌, sym, subst, mul-le-mul, arith}
use Rattle.field.specs.Meaning.{Meaning, Lawful}
use Rattle.field.specs.Extensions.{extended, Extends}
use Rattle.tower.specs.declared.pile.Pile.{Pile}
use Rattle.tower.specs.Piles.{fewest, pile_meaning}

-- what the record says of its pile, at the pile that it was found to be
pub at_pile : (p p' : Pile) → p ≡ p' → fewest p ≤ (pile_meaning p).size → fewest p' ≤ (pile_meaning p').size
at_pile p p' e h = subst (λ (x : Pile). fewest x ≤ (pile_meaning x).size) e h

-- an extension of a field with k elements or more has k * k or more
pub squared : (k : ℕ) (m e : Meaning) (n : ℕ) → k ≤ m.size → e ≡ extended m n → k * k ≤ e.size
squared k m e n h p =
    subst (λ (x : Meaning). k * k ≤ x.size) (sym p) (mul-le-mul h h)

-- no extension of a field with 43046721 elements or more is small enough
pub fifth_too_large : (p : Pile) → 43046721 ≤ fewest p → fewest p ≤ (pile_meaning p).size → 2147483647 < (pile_meaning p).size * (pile_meaning p).size
fifth_too_large p k h =
    let s : 43046721 ≤ (pile_meaning p).size = omega arith in
    let sq : 43046721 * 43046721 ≤ (pile_meaning p).size * (pile_meaning p).size = mul-le-mul s s in
    omega arith

-- what `extend` promises of the pile m, made of the pile p by the number n
abbrev Grows : Pile → ℕ → Pile → Type 0
Grows p n m =
    Extends (pile_meaning p) n × (pile_meaning m ≡ extended (pile_meaning p) n) × (Lawful (pile_meaning p) → Lawful (pile_meaning m))

-- the same, said of the piles that both were found to be
pub moved : (p p' m m' : Pile) {n : ℕ} → p ≡ p' → m ≡ m' → Grows p' n m' → Grows p n m
moved p p' m m' {n} e f h = subst (λ (x : Pile). Grows x n m) (sym e) (subst (λ (x : Pile). Grows p' n x) (sym f) h)
