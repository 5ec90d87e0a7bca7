-- A polynomial has one body, and an ideal one offer: what is read as the ideal a is the offer of a.
use Rattle.std.proofs.Common.{◌≡◌, ℕ, zero, suc, ◌<◌, ◌≢◌, List, [], ◌∷◌, ◌++◌, map, reverse, take, drop, sym, refl, ap, ◌∙◌, ap₂, arith}
use mathlib.Core.List.{reverse-reverse, reverse-cons}
use Rattle.field.specs.Meaning.{Meaning, Lawful}
use Rattle.algebra.specs.Codes.{Code, code, num_code, ring_c, zero_c?}
use Rattle.ring.proofs.Ring.{CommRing}
use Rattle.ring.proofs.Coeffs.{Trim, trim_ext, seq_norm}
use Rattle.rules.specs.Questions.{Hold}
use Rattle.std.specs.List.{AllByRecursion}
use Rattle.rules.specs.Packets.{Bytes, words, Leads, packet_asks, body_asks, body, first, second, start, long, packet, spell}
use Rattle.rules.specs.Settings.{Accepted, Ideals, body_of, poly_of, offer}
use Rattle.rules.specs.Ends.{Reads}
use Rattle.rules.proofs.Canonical.{spell_words, holds_written, spell_bytes, packet_bytes}

snoc_trim : {C : Type 0} (r : CommRing C) (l : List C) (c : C) → c ≢ r.𝟘 → Trim r (l ++ (c ∷ []))
snoc_trim r [] c h = h
snoc_trim r (a ∷ []) c h = h
snoc_trim r (a ∷ (b ∷ l)) c h = snoc_trim r (b ∷ l) c h

all_take : (P : ℕ → Type 0) (n : ℕ) (l : List ℕ) → AllByRecursion P l → AllByRecursion P (take n l)
all_take P zero l h = tt
all_take P (suc n) [] h = tt
all_take P (suc n) (x ∷ l) h = (h.0, all_take P n l h.1)

all_drop : (P : ℕ → Type 0) (n : ℕ) (l : List ℕ) → AllByRecursion P l → AllByRecursion P (drop n l)
all_drop P zero l h = h
all_drop P (suc n) [] h = tt
all_drop P (suc n) (x ∷ l) h = all_drop P n l h.1

body_bytes : (x : List ℕ) (e : ℕ) → Bytes x → Bytes (body x e)
body_bytes x e h = all_take (λ b. b < 256) (long x e) (drop (start x e) x) (all_drop (λ b. b < 256) (start x e) x h)

module _ {M : Meaning} (L : Lawful M) where
  nums_codes : (ws : List ℕ) → AllByRecursion (λ c. c < M.size) ws → map (λ (c : Code M). c.num) (map (code L) ws) ≡ ws
  nums_codes [] h = refl
  nums_codes (w ∷ ws) h = ap₂ ◌∷◌ (num_code L w h.0) (nums_codes ws h.1)

  nonzero : (w : ℕ) → w < M.size → w ≢ 0 → code L w ≢ (ring_c L).𝟘
  unfolding ring_c
  nonzero w h n e = n (sym (num_code L w h) ∙ ap (λ (c : Code M). c.num) e)

  trimmed : (ws : List ℕ) → AllByRecursion (λ c. c < M.size) ws → Leads ws → Trim (ring_c L) (reverse (map (code L) ws))
  trimmed [] h g = tt
  trimmed (w ∷ ws) h g = rw (reverse-cons (code L w) (map (code L) ws))
      (snoc_trim (ring_c L) (reverse (map (code L) ws)) (code L w) (nonzero w h.0 g))

  -- a body that passes 14 to 16 is the body of the polynomial that it is read as
  pub body_single : (b : List ℕ) → Bytes b → Hold (body_asks M.size b) → body_of L (poly_of L b) ≡ b
  body_single b h (even, (low, (lead, u))) =
      ap (λ (l : List (Code M)). spell (map (λ (c : Code M). c.num) (reverse l)))
      (trim_ext (ring_c L) (poly_of L b).list (reverse (map (code L) (words b))) (poly_of L b).trim (trimmed (words b) low lead)
      (seq_norm (ring_c L) (zero_c? L) (reverse (map (code L) (words b)))))
      ∙ ap (λ (l : List (Code M)). spell (map (λ (c : Code M). c.num) l)) (reverse-reverse (map (code L) (words b)))
      ∙ ap spell (nums_codes (words b) low)
      ∙ spell_words b even h

  -- bytes that pass 10 to 16 and are read as the ideal a are its offer
  pub offer_single : (A : Accepted L) (x : List ℕ) (a : Ideals L A) → Bytes x → Hold (packet_asks 3 4 x)
      → Hold (body_asks M.size (body x first)) → Hold (body_asks M.size (body x second)) → Reads L A x a → x ≡ offer L A a
  offer_single A x a h p q s (e, f) =
      holds_written 3 4 x (body x first) (body x second) h (record { asked = p; one = refl; other = refl })
      ∙ ap₂ (packet 3 4)
      (sym (body_single (body x first) (body_bytes x first h) q) ∙ ap (body_of L) (sym e))
      (sym (body_single (body x second) (body_bytes x second h) s) ∙ ap (body_of L) (sym f))

  -- an offer is bytes
  pub offer_bytes : (A : Accepted L) (a : Ideals L A) → Bytes (offer L A a)
  offer_bytes A a = packet_bytes 3 4 (body_of L a.Q) (body_of L a.P) (omega arith) (omega arith)
      (spell_bytes (map (λ (c : Code M). c.num) (reverse a.Q.list))) (spell_bytes (map (λ (c : Code M). c.num) (reverse a.P.list)))
