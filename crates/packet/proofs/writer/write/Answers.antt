use Rattle.std.proofs.Common.{◌≡◌, ℕ, ◌+◌, ◌*◌, ◌≤◌, List, reverse, length, take, drop, sym, refl, ap, ◌∙◌, ap₂, inl, inr, arith}
use borrow.Rule.Slice.PartMut.{put_mid}
use lib.ListN.{length-reverse}
use Rattle.std.proofs.lemmas.Grind.{common_steps}
use Rattle.rules.specs.Questions.{refused}
use Rattle.rules.specs.Packets.{packet, spell}
use Rattle.rules.proofs.Written.{packet_length, spell_length}
use Rattle.packet.specs.Bodies.{first_kind, second_kind}
use Rattle.packet.specs.Writing.{over, table}
use Rattle.packet.proofs.Buffers.{mid_over, packed, front_is, back_is}
use Rattle.packet.proofs.writer.write.Goals as goal

-- the length of a body of these codes, the lowest first
spelled : (cs : List ℕ) → length (spell (reverse cs)) ≡ 4 * length cs
spelled cs = spell_length (reverse cs) ∙ ap (λ (n : ℕ). 4 * n) (length-reverse cs)

-- what the three writes leave, where each begins behind the one before
laid : (z : List ℕ) (k l : ℕ) (b d : List ℕ) (n at₁ len₁ at₂ len₂ : ℕ) {w x y : List ℕ} → n ≡ length (packet k l b d)
    → w ≡ table k l (length b) (length d) → x ≡ b → y ≡ d → at₁ ≡ 11 → len₁ ≡ length b → at₂ ≡ 11 + length b → len₂ ≡ length d
    → (n ≡ length (packet k l b d)) × (take n (put_mid at₂ len₂ (put_mid at₁ len₁ (put_mid 0 11 z w) x) y) ≡ packet k l b d)
    × (drop n (put_mid at₂ len₂ (put_mid at₁ len₁ (put_mid 0 11 z w) x) y) ≡ drop n z)
laid z k l b d n at₁ len₁ at₂ len₂ {w} {x} {y} size head one two first long second wide =
    let t : List ℕ = table k l (length b) (length d) in
    let all : put_mid at₂ len₂ (put_mid at₁ len₁ (put_mid 0 11 z w) x) y ≡ over z 0 (packet k l b d) =
    ap₂ (λ (i : ℕ) (u : List ℕ). put_mid i len₂ u y) second
    (ap₂ (λ (i : ℕ) (u : List ℕ). put_mid i len₁ u x) first (mid_over z t w 0 11 head refl) ∙ mid_over (over z 0 t) b x 11 len₁ one long)
    ∙ mid_over (over (over z 0 t) 11 b) d y (11 + length b) len₂ two wide
    ∙ packed z b d k l (length b) refl in
    (size, ap (take n) all ∙ front_is z (packet k l b d) n size, ap (drop n) all ∙ back_is z (packet k l b d) n size)

whole : (k l : ℕ) (b d : List ℕ) → length b ≤ 512 → length d ≤ 512 → length (packet k l b d) ≡ 11 + length b + length d
whole k l b d p q = packet_length k l b d (omega arith) (omega arith)

pub returns-then-out-len : goal.returns-then-out-len
returns-then-out-len c =
    let e₁ = spelled c.args.first.now in
    let e₂ = spelled c.args.second.now in
    let n = whole (first_kind c.args.sort) (second_kind c.args.sort) (spell (reverse c.args.first.now)) (spell (reverse c.args.second.now)) (omega arith) (omega arith) in
    record { answers = inr ((λ h. omega arith), refl {a = refused 35}); wrote = tt; kept = refl {a = c.args.out.now} }

pub returns : goal.returns
returns c =
    let z : List ℕ = c.args.out.now in
    let b : List ℕ = spell (reverse c.args.first.now) in
    let d : List ℕ = spell (reverse c.args.second.now) in
    let k : ℕ = first_kind c.args.sort in
    let l : ℕ = second_kind c.args.sort in
    let e₁ = spelled c.args.first.now in
    let e₂ = spelled c.args.second.now in
    let n = whole k l b d (omega arith) (omega arith) in
    let size : 11 + 4 * length c.args.first.now + 4 * length c.args.second.now ≡ length (packet k l b d) = omega arith in
    record {
      answers = inl (omega arith, refl);
      wrote = laid z k l b d _ _ _ _ _ size (c.copy_from_slice.ensures.after ∙ c.table.ensures ∙ ap₂ (table k l) (sym e₁) (sym e₂)) c.put.ensures c.put-2.ensures
          (grind (arith, common_steps)) (grind (arith, common_steps, e₁)) (grind (arith, common_steps, e₁)) (grind (arith, common_steps, e₂));
      kept = tt;
    }
