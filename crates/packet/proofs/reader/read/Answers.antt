use Rattle.std.proofs.Common.{◌≡◌, ℕ, ◌+◌, ◌-◌, List, length, take, drop, ◌∙◌, ap₂, rules, arith}
use Rattle.std.proofs.lemmas.List.{take_rest}
use Rattle.rules.specs.Questions.{Hold}
use Rattle.rules.specs.Packets.{packet_asks}
use Rattle.rules.proofs.Canonical.{holds_written}
use Rattle.packet.specs.Bodies.{Entry, first_kind, second_kind}
use Rattle.packet.proofs.Entries.{entry_at, all_bytes}
use Rattle.packet.proofs.reader.read.Goals as goal

part : (x : List ℕ) (s n s' n' : ℕ) → s ≡ s' → n ≡ n' → take (s + n - s) (drop s x) ≡ take n' (drop s' x)
part x s n s' n' p q = ap₂ (λ (i j : ℕ). take i (drop j x)) (omega arith) p

pub returns-clause-whole : goal.returns-clause-whole
returns-clause-whole c =
    let x : List ℕ = c.args.packet.now in
    let e : Entry (take (length x - 1) (drop 1 x)) c.in_ok-kind1.kind1 c.in_ok-kind1.start1 c.in_ok-kind1.len1 c.in_ok-kind1.table.now = search rules in
    let f : Entry c.in_ok-kind1.table.now c.in_ok-kind2.kind2 c.in_ok-kind2.start2 c.in_ok-kind2.len2 c.in_ok-kind2.field-0-2.now = search rules in
    let a = entry_at x _ _ 1 _ _ _ (take_rest x 1) e in
    let b = entry_at x _ _ 6 _ _ _ a.rest_is f in
    let asked : Hold (packet_asks (first_kind c.args.sort) (second_kind c.args.sort) x) =
    (b.there, (c.if-count-ne2.false, (search rules, ((omega arith, omega arith, omega arith), tt)))) in
    holds_written (first_kind c.args.sort) (second_kind c.args.sort) x _ _ (all_bytes x (λ i. (c.type_inv.packet i).fits))
    (record {
      asked = asked;
      one = c.new-first.ensures.1 ∙ part x _ _ _ _ (c.from-start1.ensures ∙ a.start_is) (c.from-len1.ensures ∙ a.len_is);
      other = c.new-second.ensures.1 ∙ part x _ _ _ _ (c.from-start2.ensures ∙ b.start_is) (c.from-len2.ensures ∙ b.len_is);
    })
