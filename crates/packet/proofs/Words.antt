-- The codes of a polynomial's body, one by one.
use Rattle.std.proofs.Common.{◌≡◌, ◌==◌, ℕ, zero, suc, ◌+◌, ◌*◌, ◌/◌, ◌%◌, ◌<◌, ◌≤◌, ◌≢◌, Bool, true, false, List, [], ◌∷◌, ◌++◌, map, length, take, get_or, sym, refl, ap, ◌∙◌, ap₂, arith, MatchBool}
use lib.ListN.{length-map, get_or-map}
use Rattle.std.specs.List.{starts_with, HoldsAt, AllWithin, AllByRecursion}
use Rattle.std.specs.Simd.{first_chunks}
use Rattle.std.proofs.lemmas.Slice.Eq.{bytes_eq-Decides}
use Rattle.rules.specs.Packets.{byte, number, four, words, spell, Leads}

-- as many as fit into the body
pub words_length : (b : List ℕ) → length (words b) ≡ length b / 4
words_length [] = refl
words_length (a ∷ []) = refl
words_length (a ∷ (b ∷ [])) = refl
words_length (a ∷ (b ∷ (c ∷ []))) = refl
words_length (a ∷ (b ∷ (c ∷ (d ∷ x)))) = let e = words_length x in omega arith

-- the number of the four bytes from place j on
abbrev pub word_at : List ℕ → ℕ → ℕ
word_at b j = byte b j * 16777216 + byte b (j + 1) * 65536 + byte b (j + 2) * 256 + byte b (j + 3)

-- the number of four bytes
abbrev pub word : List ℕ → ℕ
word w = word_at w 0

-- a code is the number of its own four bytes of the body
pub words_at : (b : List ℕ) (i : ℕ) → 4 * i + 4 ≤ length b → word_at b (4 * i) ≡ get_or (words b) i 0
words_at [] i h = absurd (omega arith)
words_at (a ∷ []) i h = absurd (omega arith)
words_at (a ∷ (b ∷ [])) i h = absurd (omega arith)
words_at (a ∷ (b ∷ (c ∷ []))) i h = absurd (omega arith)
words_at (a ∷ (b ∷ (c ∷ (d ∷ x)))) zero h = omega arith
words_at (a ∷ (b ∷ (c ∷ (d ∷ x)))) (suc i) h =
    let y : List ℕ = a ∷ b ∷ c ∷ d ∷ x in
    let e : (j : ℕ) → byte y (4 * suc i + j) ≡ byte x (4 * i + j) = λ j.
    ap (byte y) (let n : 4 * suc i + j ≡ suc (suc (suc (suc (4 * i + j)))) = omega arith in n) in
    let e₀ : byte y (4 * suc i) ≡ byte x (4 * i) = ap (byte y) (let n : 4 * suc i ≡ suc (suc (suc (suc (4 * i)))) = omega arith in n) in
    let w = words_at x i (omega arith) in
    omega (arith, e 1, e 2, e 3)

-- the codes, four bytes by four
pub words_chunks : (b : List ℕ) (n : ℕ) → n ≡ length b / 4 → map word (first_chunks 4 n b) ≡ words b
words_chunks [] zero e = refl
words_chunks [] (suc n) e = absurd (omega arith)
words_chunks (a ∷ []) zero e = refl
words_chunks (a ∷ []) (suc n) e = absurd (omega arith)
words_chunks (a ∷ (b ∷ [])) zero e = refl
words_chunks (a ∷ (b ∷ [])) (suc n) e = absurd (omega arith)
words_chunks (a ∷ (b ∷ (c ∷ []))) zero e = refl
words_chunks (a ∷ (b ∷ (c ∷ []))) (suc n) e = absurd (omega arith)
words_chunks (a ∷ (b ∷ (c ∷ (d ∷ x)))) zero e = absurd (omega arith)
words_chunks (a ∷ (b ∷ (c ∷ (d ∷ x)))) (suc n) e = ap₂ ◌∷◌ (omega arith) (words_chunks x n (omega arith))

-- as many coefficients as ds has: the first n are those of ds
abbrev pub Filled : List ℕ → ℕ → List ℕ → Type 0
Filled ds n cs = (length cs ≡ length ds) × ((j : ℕ) → j < n → get_or cs j 0 ≡ get_or ds j 0)

-- what holds of each code, by its place
module _ (P : ℕ → Type 0) where
  pub all_at : (ws : List ℕ) (k : ℕ) → AllByRecursion P ws → k < length ws → P (get_or ws k 0)
  all_at [] k a h = absurd (omega arith)
  all_at (w ∷ ws) zero a h = a.0
  all_at (w ∷ ws) (suc k) a h = all_at ws k a.1 (omega arith)

  pub all_from : (ws : List ℕ) → ((k : ℕ) → k < length ws → P (get_or ws k 0)) → AllByRecursion P ws
  all_from [] h = tt
  all_from (w ∷ ws) h = (h 0 (omega arith), all_from ws (λ k l. h (suc k) (omega arith)))

-- the first code
pub leads_at : (ws : List ℕ) → Leads ws → 0 < length ws → get_or ws 0 0 ≢ 0
leads_at [] l h = absurd (omega arith)
leads_at (w ∷ ws) l h = l

pub leads_from : (ws : List ℕ) → (0 < length ws → get_or ws 0 0 ≢ 0) → Leads ws
leads_from [] h = tt
leads_from (w ∷ ws) h = h (omega arith)

-- four bytes 0 at the front are a first code 0
pub zeros_lead : (b : List ℕ) → starts_with ◌==◌ b (0 ∷ 0 ∷ 0 ∷ 0 ∷ []) ≡ true → ¬ Leads (words b)
zeros_lead b h l = by b ((bytes_eq-Decides (0 ∷ 0 ∷ 0 ∷ 0 ∷ []) (take 4 b)).0 h) l
  where
    by : (b : List ℕ) → 0 ∷ 0 ∷ 0 ∷ 0 ∷ [] ≡ take 4 b → Leads (words b) → ⊥
    by [] e l = cc
    by (a ∷ []) e l = cc
    by (a ∷ (b ∷ [])) e l = cc
    by (a ∷ (b ∷ (c ∷ []))) e l = cc
    by (a ∷ (b ∷ (c ∷ (d ∷ x)))) e l = l (sym (ap number e))

pub lead_zeros : (b : List ℕ) → length b % 4 ≡ 0 → starts_with ◌==◌ b (0 ∷ 0 ∷ 0 ∷ 0 ∷ []) ≡ false → Leads (words b)
lead_zeros [] h f = tt
lead_zeros (a ∷ []) h f = absurd (omega arith)
lead_zeros (a ∷ (b ∷ [])) h f = absurd (omega arith)
lead_zeros (a ∷ (b ∷ (c ∷ []))) h f = absurd (omega arith)
lead_zeros (a ∷ (b ∷ (c ∷ (d ∷ x)))) h f = λ z.
    let p : 0 ≡ a = omega arith in
    let q : 0 ≡ b = omega arith in
    let r : 0 ≡ c = omega arith in
    let s : 0 ≡ d = omega arith in
    let t = (bytes_eq-Decides (0 ∷ 0 ∷ 0 ∷ 0 ∷ []) (a ∷ b ∷ c ∷ d ∷ [])).1 (λ i. p i ∷ q i ∷ r i ∷ s i ∷ []) in
    cc

-- whether a code is q or more
pub some_large : (b : List ℕ) (q : ℕ) (cs : List (List ℕ)) (r : Bool) → cs ≡ first_chunks 4 (length b / 4) b
    → MatchBool r ((k : ℕ) × (k < length cs) × HoldsAt (λ w. q ≤ word w) cs k) (AllWithin (λ w. word w < q) cs 0 (length cs))
    → (r ≡ true → ¬ AllByRecursion (λ c. c < q) (words b)) × (r ≡ false → AllByRecursion (λ c. c < q) (words b))
some_large b q cs r e = by r
  where
    same : map word cs ≡ words b
    same = ap (map word) e ∙ words_chunks b (length b / 4) refl

    at : (k : ℕ) → get_or (words b) k 0 ≡ word (get_or cs k [])
    at k = ap (λ (l : List ℕ). get_or l k 0) (sym same) ∙ get_or-map word cs k []

    long : length (words b) ≡ length cs
    long = ap length (sym same) ∙ length-map cs word

    by : (r : Bool) → MatchBool r ((k : ℕ) × (k < length cs) × HoldsAt (λ w. q ≤ word w) cs k) (AllWithin (λ w. word w < q) cs 0 (length cs))
        → (r ≡ true → ¬ AllByRecursion (λ c. c < q) (words b)) × (r ≡ false → AllByRecursion (λ c. c < q) (words b))
    by true (k, l, h) = ((λ e a. let f = all_at (λ c. c < q) (words b) k a (omega (arith, long)) in let g = h [] in omega (arith, at k)), (λ e. cc))
    by false h = ((λ e. cc), (λ e. all_from (λ c. c < q) (words b) (λ k l. let f = h k [] (omega arith) (omega (arith, long)) in omega (arith, at k))))

-- the bodies of codes put together
pub spell_append : (xs ys : List ℕ) → spell (xs ++ ys) ≡ spell xs ++ spell ys
spell_append [] ys = refl
spell_append (x ∷ xs) ys = ap (λ (l : List ℕ). four x ++ l) (spell_append xs ys)
