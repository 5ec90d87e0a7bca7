-- Entries of the table of contents, as the rules read them.
use Rattle.std.proofs.Common.{◌≡◌, ℕ, suc, ◌+◌, ◌<◌, ◌≤◌, List, [], ◌∷◌, length, get_or, drop, ap, ◌∙◌, arith, length-drop}
use Rattle.std.proofs.lemmas.List.{get_or-drop, drop-drop}
use Rattle.rules.specs.Packets.{Bytes, byte, kind, start, long}
use Rattle.packet.specs.Bodies.{Entry}

-- the entry at the byte e of a packet
pub record EntryAt (x : List ℕ) (e k s n : ℕ) (rest : List ℕ) : Type 0 where
  pub there : 5 + e ≤ length x
  pub kind_is : k ≡ kind x e
  pub start_is : s ≡ start x e
  pub len_is : n ≡ long x e
  pub rest_is : rest ≡ drop (5 + e) x

pub entry_at : (x t rest : List ℕ) (e k s n : ℕ) → t ≡ drop e x → Entry t k s n rest → EntryAt x e k s n rest
entry_at x t rest e k s n d h =
    let at : (i : ℕ) → get_or t i 0 ≡ byte x (i + e) = λ i. ap (λ (l : List ℕ). get_or l i 0) d ∙ get_or-drop e x i 0 ∙ ap (byte x) (omega arith) in
    let here : byte x (0 + e) ≡ byte x e = ap (byte x) (omega arith) in
    let l : length t ≡ length (drop e x) = ap length d in
    let there = h.there in
    record {
      there = omega (arith, length-drop e x);
      kind_is = h.kind_is ∙ at 0 ∙ here;
      start_is = omega (arith, h.start_is, at 1, at 2);
      len_is = omega (arith, h.len_is, at 3, at 4);
      rest_is = h.rest_is ∙ ap (drop 5) d ∙ drop-drop 5 e x ∙ ap (λ (i : ℕ). drop i x) (omega arith);
    }

-- a list whose elements are all below 256 is a list of bytes
pub all_bytes : (x : List ℕ) → ((i : ℕ) → get_or x i 0 < 256) → Bytes x
all_bytes [] h = tt
all_bytes (b ∷ x) h = (h 0, all_bytes x (λ i. h (suc i)))
