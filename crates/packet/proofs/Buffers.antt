-- Bytes written into a buffer.
use Rattle.std.proofs.Common.{◌≡◌, ℕ, ◌+◌, ◌≤◌, List, [], ◌++◌, append-nil, length, take, drop, sym, ap, ◌∙◌, ap₂, arith, length-append, length-drop, take-append-drop, refl}
use borrow.Rule.Slice.PartMut.{put_mid}
use Rattle.std.proofs.lemmas.List.{nil_from_length, drop-drop, take_at, drop_at, append_assoc, length-take-le}
use Rattle.rules.specs.Packets.{packet}
use Rattle.packet.specs.Writing.{over, table}

-- a part that was written whole
pub mid_over : (z x y : List ℕ) (at k : ℕ) → y ≡ x → k ≡ length x → put_mid at k z y ≡ over z at x
mid_over z x y at k e n = ap₂ (λ (u : List ℕ) (i : ℕ). take at z ++ (u ++ drop i (drop at z))) e n ∙ ap (λ (u : List ℕ). take at z ++ (x ++ u)) (drop-drop (length x) at z)

-- nothing written leaves all
pub over_nil : (z : List ℕ) (at : ℕ) → over z at [] ≡ z
over_nil z at = ap (λ (i : ℕ). take at z ++ drop i z) (let e : at + 0 ≡ at = omega arith in e) ∙ take-append-drop at z

-- a buffer keeps its length
pub over_length : (z x : List ℕ) (at : ℕ) → at + length x ≤ length z → length (over z at x) ≡ length z
over_length z x at h =
    length-append (take at z) (x ++ drop (at + length x) z)
    ∙ (let a = length-take-le at z (omega arith) in
    let b = length-append x (drop (at + length x) z) in
    let c = length-drop (at + length x) z in
    let d : length (take at z) + length (x ++ drop (at + length x) z) ≡ length z = omega arith in d)

-- a buffer that is written whole
pub over_whole : (z x : List ℕ) → length z ≤ length x → over z 0 x ≡ x
over_whole z x h = ap (λ (l : List ℕ). x ++ l) (nil_from_length (drop (0 + length x) z) (omega (arith, length-drop (0 + length x) z))) ∙ append-nil x

-- what is written right behind what was written
pub over_over : (z x y : List ℕ) (at next : ℕ) → at ≤ length z → next ≡ at + length x → over (over z at x) next y ≡ over z at (x ++ y)
over_over z x y at next h e =
    let t = length-take-le at z h in
    let n : length (take at z ++ x) ≡ next = length-append (take at z) x ∙ (let k : length (take at z) + length x ≡ next = omega arith in k) in
    let s : over z at x ≡ (take at z ++ x) ++ drop (at + length x) z = sym (append_assoc (take at z) x (drop (at + length x) z)) in
    let front : take next (over z at x) ≡ take at z ++ x = ap (take next) s ∙ take_at (take at z ++ x) (drop (at + length x) z) next n in
    let back : drop next (over z at x) ≡ drop (at + length x) z = ap (drop next) s ∙ drop_at (take at z ++ x) (drop (at + length x) z) next n in
    let rest : drop (next + length y) (over z at x) ≡ drop (at + length (x ++ y)) z =
    sym (drop-drop (length y) next (over z at x)) ∙ ap (drop (length y)) back ∙ drop-drop (length y) (at + length x) z
    ∙ ap (λ (i : ℕ). drop i z) (let l = length-append x y in let k : at + length x + length y ≡ at + length (x ++ y) = omega arith in k) in
    ap₂ (λ (u v : List ℕ). u ++ (y ++ v)) front rest
    ∙ append_assoc (take at z) x (y ++ drop (at + length (x ++ y)) z)
    ∙ ap (λ (u : List ℕ). take at z ++ u) (sym (append_assoc x y (drop (at + length (x ++ y)) z)))

-- what stands at the front and behind it
pub front_is : (z x : List ℕ) (n : ℕ) → n ≡ length x → take n (over z 0 x) ≡ x
front_is z x n e = take_at x (drop (0 + length x) z) n (sym e)

pub back_is : (z x : List ℕ) (n : ℕ) → n ≡ length x → drop n (over z 0 x) ≡ drop n z
back_is z x n e = drop_at x (drop (0 + length x) z) n (sym e) ∙ ap (λ (i : ℕ). drop i z) (let k : 0 + length x ≡ n = omega arith in k)

-- a packet, written as its table and its two bodies
pub packed : (z b c : List ℕ) (k l n : ℕ) → n ≡ length b
    → over (over (over z 0 (table k l (length b) (length c))) 11 b) (11 + n) c ≡ over z 0 (packet k l b c)
packed z b c k l n e =
    let t : List ℕ = table k l (length b) (length c) in
    ap (λ (y : List ℕ). over y (11 + n) c) (over_over z t b 0 11 (omega arith) refl)
    ∙ over_over z (t ++ b) c 0 (11 + n) (omega arith) (let a = length-append t b in omega arith)
