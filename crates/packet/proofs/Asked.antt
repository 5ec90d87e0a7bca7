-- The questions of whole packets, put one after the other.
use Rattle.std.specs.Str.{bytes_eq}
use Rattle.std.proofs.lemmas.Slice.Eq.{bytes_eq-Decides}
use Rattle.std.proofs.Common.{◌≡◌, ℕ, zero, suc, false, take, drop, inr, List, [], ◌∷◌, ◌++◌, length, sym, refl, ap, ◌∙◌, subst, arith}
use Rattle.rules.specs.Questions.{◌if_not◌, Answer, accepted, refused, Answers, Answered}
use Rattle.rules.specs.Packets.{Bytes, number, four, packet_asks, body_asks, body, first, second, start, long}
use Rattle.rules.proofs.Answering.{answered, accepted_then}
use Rattle.rules.proofs.Canonical.{spell_words}
use Rattle.packet.specs.declared.body.Body.{Body}
use Rattle.packet.specs.declared.body.Sort.TheVariants.{Setting, Offer}
use Rattle.packet.specs.Bodies.{bytes_of, Parts}
use Rattle.packet.specs.Contents.{setting_asked, offer_asked}
use Rattle.packet.proofs.Words.{word_at}

-- the packet and Q's body are accepted, and P's body decides
pub offer_answered : (q : ℕ) (x y z : List ℕ) (b c : Body) (a : Answer) → Answers (packet_asks 3 4 x) accepted → Parts Offer x b c
    → y ≡ bytes_of b → Answers (body_asks q y) accepted → z ≡ bytes_of c → Answers (body_asks q z) a → Answered (offer_asked q x) a
offer_answered q x y z b c a asked parts e h f g = answered (offer_asked q x) a
    (accepted_then (packet_asks 3 4 x ++ body_asks q (body x first)) (body_asks q (body x second)) a
    (accepted_then (packet_asks 3 4 x) (body_asks q (body x first)) accepted asked (subst (λ (u : List ℕ). Answers (body_asks q u) accepted) (e ∙ parts.one.bytes_are) h))
    (subst (λ (u : List ℕ). Answers (body_asks q u) a) (f ∙ parts.other.bytes_are) g))

-- a part of bytes
cut_bytes : (n m : ℕ) (x : List ℕ) → Bytes x → Bytes (take n (drop m x))
cut_bytes zero m x h = tt
cut_bytes (suc n) zero [] h = tt
cut_bytes (suc n) (suc m) [] h = tt
cut_bytes (suc n) zero (b ∷ x) h = (h.0, cut_bytes n zero x h.1)
cut_bytes (suc n) (suc m) (b ∷ x) h = cut_bytes (suc n) m x h.1

-- the number of four bytes
pub number_at : (b : List ℕ) → length b ≡ 4 → word_at b 0 ≡ number b
number_at [] h = absurd (omega arith)
number_at (i ∷ []) h = absurd (omega arith)
number_at (i ∷ (j ∷ [])) h = absurd (omega arith)
number_at (i ∷ (j ∷ (k ∷ []))) h = absurd (omega arith)
number_at (i ∷ (j ∷ (k ∷ (l ∷ [])))) h = omega arith
number_at (i ∷ (j ∷ (k ∷ (l ∷ (m ∷ b))))) h = absurd (omega arith)

-- four bytes are what their number is written as
four_bytes : (q : ℕ) (b : List ℕ) → Bytes b → length b ≡ 4 → number b ≡ q → b ≡ four q
four_bytes q [] g h e = absurd (omega arith)
four_bytes q (i ∷ []) g h e = absurd (omega arith)
four_bytes q (i ∷ (j ∷ [])) g h e = absurd (omega arith)
four_bytes q (i ∷ (j ∷ (k ∷ []))) g h e = absurd (omega arith)
four_bytes q (i ∷ (j ∷ (k ∷ (l ∷ [])))) g h e = sym (spell_words (i ∷ j ∷ k ∷ l ∷ []) refl g) ∙ ap four e
four_bytes q (i ∷ (j ∷ (k ∷ (l ∷ (m ∷ b))))) g h e = absurd (omega arith)

-- the packet is accepted, and its first body y is no size q, which is written as z
pub size_refused : (q : ℕ) (x y z : List ℕ) (b c : Body) → Bytes x → Answers (packet_asks 1 2 x) accepted → Parts Setting x b c
    → y ≡ bytes_of b → z ≡ four q → bytes_eq y z ≡ false → Answered (setting_asked q x) (refused 20)
size_refused q x y z b c bytes asked parts e f ne = answered (setting_asked q x) (refused 20)
    (accepted_then (packet_asks 1 2 x) ((((length (body x first) ≡ 4) × (number (body x first) ≡ q)) if_not 20) ∷ body_asks q (body x second)) (refused 20) asked
    (inr ((λ h. let d = (bytes_eq-Decides y z).1 (e ∙ parts.one.bytes_are ∙ four_bytes q (body x first) (cut_bytes (long x first) (start x first) x bytes) h.0 h.1 ∙ sym f) in cc), refl)))
