use Rattle.std.proofs.Common.{◌≡◌, ℕ, ◌+◌, ◌*◌, ◌<◌, List, [], ◌∷◌, ◌++◌, reverse, length, get_or, take, Some, None, sym, refl, ap, ◌∙◌, arith, length-append}
use lib.ListN.{length-reverse}
use Rattle.std.proofs.lemmas.List.{take_more, take_all, length-take-le}
use Rattle.rules.specs.Packets.{four, spell}
use Rattle.rules.proofs.Written.{spell_length}
use Rattle.packet.specs.Writing.{over}
use Rattle.packet.proofs.Words.{spell_append}
use Rattle.packet.proofs.Turns.{down_turn, down_end}
use Rattle.packet.proofs.Buffers.{mid_over, over_over, over_whole}
use Rattle.packet.proofs.writer.put.Goals as goal

-- one more code
more : (z cs : List ℕ) (i w : ℕ) → i < length cs → w ≡ get_or cs i w → over (over z 0 (spell (take i cs))) (4 * i) (four w) ≡ over z 0 (spell (take (i + 1) cs))
more z cs i w less e =
    let l : length (spell (take i cs)) ≡ 4 * i = spell_length (take i cs) ∙ ap (λ (k : ℕ). 4 * k) (length-take-le i cs (omega arith)) in
    over_over z (spell (take i cs)) (four w) 0 (4 * i) (omega arith) (omega arith)
    ∙ ap (over z 0)
    (ap (λ (k : ℕ). spell (take i cs) ++ four k) e
    ∙ sym (spell_append (take i cs) (get_or cs i w ∷ []))
    ∙ ap spell (sym (take_more cs i w less)))

pub loop-i-preserved : goal.loop-i-preserved
loop-i-preserved c =
    let n : ℕ = length c.loop-i.yielded in
    let cs : List ℕ = reverse c.args.codes.now in
    let t = down_turn c.args.codes.now c.into_iter-i-iterator.result (cc) (cc) c.loop-i.yielded c.loop-i.i-iterator c.loop-i.yielded_by (Some (c.in-Some.i, c.in-Some.code)) c.next.new.self (c.in-Some.i, c.in-Some.code) refl c.in-Some.ensures.steps in
    let one : length (c.loop-i.yielded ++ ((c.in-Some.i, c.in-Some.code) ∷ [])) ≡ n + 1 = omega (arith, length-append c.loop-i.yielded ((c.in-Some.i, c.in-Some.code) ∷ [])) in
    mid_over c.loop-i.body (four c.in-Some.code.now) _ (4 * c.in-Some.i) _ (c.copy_from_slice.ensures.after ∙ c.to_be_bytes.ensures) (omega arith)
    ∙ ap (λ (i : ℕ). over c.loop-i.body (4 * i) (four c.in-Some.code.now)) t.1
    ∙ ap (λ (z : List ℕ). over z (4 * n) (four c.in-Some.code.now)) c.loop-i.invariant
    ∙ more c.args.body.now cs n c.in-Some.code.now (omega (arith, t.0, length-reverse c.args.codes.now)) t.2
    ∙ ap (λ (i : ℕ). over c.args.body.now 0 (spell (take i cs))) (sym one)

pub returns : goal.returns
returns c =
    let cs : List ℕ = reverse c.args.codes.now in
    let n = down_end c.args.codes.now c.into_iter-i-iterator.result (cc) (cc) c.loop-i.yielded c.loop-i.i-iterator c.loop-i.yielded_by None c.next.new.self refl c.in-None.ensures.steps in
    c.loop-i.invariant
    ∙ ap (λ (l : List ℕ). over c.args.body.now 0 (spell l)) (take_all (length c.loop-i.yielded) cs (omega (arith, length-reverse c.args.codes.now)))
    ∙ over_whole c.args.body.now (spell cs) (omega (arith, spell_length cs, length-reverse c.args.codes.now, c.requires))
