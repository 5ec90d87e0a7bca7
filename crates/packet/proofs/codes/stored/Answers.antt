use Rattle.std.proofs.Common.{◌≡◌, ℕ, ◌+◌, ◌/◌, ◌<◌, ◌≤◌, ◌≢◌, List, [], ◌∷◌, map, reverse, length, get_or, Some, None, Option, set, sym, refl, ap, subst, ◌∙◌, arith, ⊎_elim, rules, length-set, length-append, get_or-set_other, get_or-set_same, below_more, Ok, Err, Result, MatchResult}
use Rattle.std.specs.Result.{result_ok}
use Rattle.poly.specs.declared.poly.lists.TooLong.{TooLong}
use lib.ListN.{length-reverse, get_or-map}
use Rattle.std.specs.Simd.{first_chunks}
use Rattle.std.proofs.lemmas.List.{get_or_default, ext_get_or}
use Rattle.rules.specs.Packets.{words}
use Rattle.poly.specs.Values.{at}
use Rattle.poly.specs.Rules.{Listed}
use Rattle.poly.specs.declared.poly.Poly.{Poly}
use Rattle.packet.specs.Polynomials.{Stored}
use Rattle.packet.proofs.Words.{Filled, word, words_length, words_chunks}
use Rattle.packet.proofs.Records.{map_reverse}
use Rattle.packet.proofs.Turns.{down_turn, down_end}
use Rattle.packet.proofs.codes.stored.Goals as goal

-- the coefficients that the loop leaves are the codes, turned round
found : (b cs : List ℕ) (r : Result Poly TooLong) → length cs ≤ 128 → Filled (reverse (words b)) (length cs) cs
    → MatchResult r (λ p. (length cs ≤ 128) × ((k : ℕ) → at p k ≡ get_or cs k 0) × Listed cs p) (λ _. 128 < length cs) → Stored b (result_ok r)
found b cs (Err _) s inv h = absurd (omega arith)
found b cs (Ok p) s inv h =
    let same : cs ≡ reverse (words b) = ext_get_or 0 cs (reverse (words b)) inv.0 inv.1 in
    (omega (arith, inv.0, length-reverse (words b)), λ k. h.1 k ∙ ap (λ (l : List ℕ). get_or l k 0) same)

-- one more coefficient
more : (ds cs : List ℕ) (n k v m : ℕ) → Filled ds n cs → n < length ds → k ≡ n → v ≡ get_or ds n 0 → m ≡ n + 1 → Filled ds m (set cs k v)
more ds cs n k v m f l p e q = subst (λ (i : ℕ). Filled ds m (set cs i v)) (sym p) (subst (λ (i : ℕ). Filled ds i (set cs n v)) (sym q) (
  length-set cs n v ∙ f.0,
  below_more _ _
      (λ j h. let ne : j ≢ n = omega arith in rw get_or-set_other (f.1 j h))
      (let lt : n < length cs = omega (arith, f.0) in rw get_or-set_same e),
))

-- the code of four bytes, counted from the body's end
turned : (b : List ℕ) (cs : List (List ℕ)) (i : ℕ) (w : List ℕ) → cs ≡ first_chunks 4 (length b / 4) b → i < length cs → w ≡ get_or (reverse cs) i w
    → word w ≡ get_or (reverse (words b)) i 0
turned b cs i w e l h =
    ap word (h ∙ get_or_default (reverse cs) i w [] (omega (arith, length-reverse cs)))
    ∙ sym (get_or-map word (reverse cs) i [])
    ∙ ap (λ (u : List ℕ). get_or u i 0) (map_reverse word cs ∙ ap reverse (ap (map word) e ∙ words_chunks b (length b / 4) refl))

pub returns-in_err-coeffs : goal.returns-in_err-coeffs
returns-in_err-coeffs c =
    let many : 128 < length c.as_chunks.result.0.now = ⊎_elim (λ h. absurd (omega arith)) (λ h. h) c.in_err-coeffs.ensures.lookup.0 in
    rw c.from_residual.ensures (omega (arith, many, words_length c.args.body.now, c.as_chunks.ensures.front_len))

pub loop-k-init : goal.loop-k-init
loop-k-init c =
    let long : length c.in_ok-coeffs.coeffs.now ≡ length c.as_chunks.result.0.now = search rules in
    (omega (arith, long, length-reverse (words c.args.body.now), words_length c.args.body.now, c.as_chunks.ensures.front_len), (λ j h. absurd (omega arith)))

pub loop-k-preserved : goal.loop-k-preserved
loop-k-preserved c =
    let n : ℕ = length c.loop-k.yielded in
    let cs : List (List ℕ) = c.as_chunks.result.0.now in
    let t = down_turn cs c.into_iter-k-iterator.result (cc) (cc) c.loop-k.yielded c.loop-k.k-iterator c.loop-k.yielded_by (Some (c.in-Some.k, c.in-Some.code)) c.next.new.self (c.in-Some.k, c.in-Some.code) refl c.in-Some.ensures.steps in
    let w : c.from_be_bytes.result ≡ get_or (reverse (words c.args.body.now)) n 0 = c.from_be_bytes.ensures ∙ turned c.args.body.now cs n c.in-Some.code.now c.as_chunks.ensures.front t.0 t.2 in
    let l : n < length (reverse (words c.args.body.now)) = omega (arith, t.0, length-reverse (words c.args.body.now), words_length c.args.body.now, c.as_chunks.ensures.front_len) in
    more (reverse (words c.args.body.now)) c.loop-k.coeffs n c.in-Some.k _ _ c.loop-k.invariant l t.1 w (length-append c.loop-k.yielded ((c.in-Some.k, c.in-Some.code) ∷ []))

pub returns : goal.returns
returns c =
    let cs : List (List ℕ) = c.as_chunks.result.0.now in
    let n = down_end cs c.into_iter-k-iterator.result (cc) (cc) c.loop-k.yielded c.loop-k.k-iterator c.loop-k.yielded_by None c.next.new.self refl c.in-None.ensures.steps in
    let few : length cs ≤ 128 = search rules in
    let l : length c.loop-k.yielded ≡ length c.loop-k.coeffs =
    omega (arith, n, c.loop-k.invariant.0, length-reverse (words c.args.body.now), words_length c.args.body.now, c.as_chunks.ensures.front_len) in
    subst (λ (r : Option Poly). Stored c.args.body.now r) (sym c.ok.ensures.value)
    (found c.args.body.now c.loop-k.coeffs c.try_from.result (omega (arith, few, n, l)) (subst (λ (i : ℕ). Filled (reverse (words c.args.body.now)) i c.loop-k.coeffs) l c.loop-k.invariant) c.try_from.ensures)
