-- An offer that one end tells is accepted by the other, or answered by 45: which, the product of the distances decides.
use Rattle.std.proofs.Common.{◌≡◌, ℕ, ◌+◌, ◌-◌, ◌*◌, ◌<◌, ◌≢◌, List, [], ◌∷◌, ◌++◌, length, sym, refl, ap, ◌∙◌, subst, inl, inr, arith}
use Rattle.field.specs.Meaning.{Meaning, Lawful}
use Rattle.algebra.proofs.Unique.{ideal_path}
use Rattle.algebra.proofs.Multiples.{times_lawful, times_multiple, times_exists}
use Rattle.algebra.proofs.Line.{place_legal, place_unique, place_multiple, closest_place}
use Rattle.rules.specs.Questions.{Question, accepted, refused, Answers, Hold, ◌if_not◌}
use Rattle.rules.specs.Packets.{packet_asks, body_asks, body, first, second, Holds}
use Rattle.rules.specs.Settings.{Accepted, setting, Ideals, unit_ideal, Closest, body_of, poly_of, offer}
use Rattle.rules.specs.Ends.{ideal_asks, Reads, Other, KeyIs, OtherKey, take_asks, opened}
use Rattle.rules.proofs.Answering.{hold_append, hold_then}
use Rattle.rules.proofs.Written.{packet_holds}
use Rattle.rules.proofs.Spelled.{body_length, body_holds, body_read}
use Rattle.algebra.specs.Settings.{Setting}
use Rattle.algebra.specs.Places.{Place, place, LawfulPlace, Times}
use Rattle.algebra.specs.Lines.{PlaceAt}
use Rattle.algebra.specs.Codes.{K}

module _ {M : Meaning} (L : Lawful M) (A : Accepted L) where
  abbrev S : Setting (K L)
  S = setting L A

  abbrev at : Ideals L A → ℕ → Place (K L) S
  at a f = place (K L) S a f

  -- the ideal closest to the left of t is one
  pub closest_unique : (t δ ε : ℕ) (a b : Ideals L A) → Closest L A t a δ → Closest L A t b ε → (a ≡ b) × (δ ≡ ε)
  closest_unique t δ ε a b c e =
      let p = place_unique (K L) S (closest_place (K L) S c) (closest_place (K L) S e) in
      (ap (λ (x : Place (K L) S). x.ideal) p, omega (arith, c.left, e.left, ap (λ (x : Place (K L) S). x.off) p))

  -- it is reduced
  pub closest_legal : (t δ : ℕ) (a : Ideals L A) → Closest L A t a δ → LawfulPlace (K L) S (at a 0)
  closest_legal t δ a c =
      let l = place_legal (K L) S (closest_place (K L) S c) in
      record { standard = l.standard; fits = omega (arith, l.fits) }

  -- and stands at its own distance
  pub closest_floor : (t δ : ℕ) (a : Ideals L A) → Closest L A t a δ → PlaceAt (K L) S δ (at a 0)
  closest_floor t δ a c = record { index = c.index; distance = δ; line = c.line; split = omega arith; fits = (closest_legal t δ a c).fits }

  -- the offer of a reduced ideal
  module _ (b : Ideals L A) (lb : LawfulPlace (K L) S (at b 0)) where
    short_Q : 11 + length (body_of L b.Q) < 65536
    short_Q = omega (arith, body_length L b.Q, lb.fits, A.high)

    short_P : length (body_of L b.P) < 65536
    short_P = omega (arith, body_length L b.P, lb.fits, lb.standard.small, A.high)

    pub offer_holds : Holds 3 4 (offer L A b) (body_of L b.Q) (body_of L b.P)
    offer_holds = packet_holds 3 4 (body_of L b.Q) (body_of L b.P) short_Q short_P

    pub offer_reads : Reads L A (offer L A b) b
    offer_reads = (
      sym (ap (poly_of L) (sym offer_holds.one) ∙ body_read L b.Q),
      sym (ap (poly_of L) (sym offer_holds.other) ∙ body_read L b.P),
    )

    pub ideal_holds : Hold (ideal_asks L A b.Q b.P)
    ideal_holds =
        let s = lb.standard.small in
        let t = lb.fits in (
          (omega arith, omega arith),
          (
            ((K L).len b.Q - 1, omega arith, lb.standard.monic ((K L).len b.Q - 1) (omega arith)),
            (s, (b.exact, tt)),
          ),
        )

    -- questions 10 to 13, 14 to 16 of Q and of P, 40 to 43
    abbrev asks_x : List Question
    asks_x = packet_asks 3 4 (offer L A b)

    abbrev asks_q : List Question
    asks_q = body_asks M.size (body (offer L A b) first)

    abbrev asks_p : List Question
    asks_p = body_asks M.size (body (offer L A b) second)

    abbrev asks_i : List Question
    asks_i = ideal_asks L A (poly_of L (body (offer L A b) first)) (poly_of L (body (offer L A b) second))

    abbrev up_to43 : List Question
    up_to43 = asks_x ++ asks_q ++ asks_p ++ asks_i

    offer_asked_lem : Hold up_to43
    offer_asked_lem = hold_append (asks_x ++ asks_q ++ asks_p) asks_i (hold_append (asks_x ++ asks_q) asks_p (hold_append asks_x asks_q
        offer_holds.asked
        (rw (sym offer_holds.one) (body_holds L b.Q)))
        (rw (sym offer_holds.other) (body_holds L b.P)))
        (rw (sym offer_reads.0, sym offer_reads.1) ideal_holds)

    -- who reads the offer reads b
    reads_unique : (c : Ideals L A) → Reads L A (offer L A b) c → c ≡ b
    reads_unique c h = ideal_path (K L) S c b (h.0 ∙ sym offer_reads.0) (h.1 ∙ sym offer_reads.1)

    -- the key from the offer of an ideal at distance ε is the ideal closest to the left of the product
    module _ (t δ ε : ℕ) (cl : Closest L A t b ε) (k : Ideals L A) (far : ℕ) (ck : Closest L A (δ * ε) k far) where
      pub key_is : (x : Ideals L A) → KeyIs L A δ (offer L A b) x → x ≡ k
      key_is x (c, h, (f, μ)) =
          let e = reads_unique c h in
          let τ = subst (λ (z : Ideals L A). Times (K L) S (at z 0) δ (at x f)) e μ in
          let π = place_multiple (K L) S δ (at b 0) (at x f) (closest_floor t ε b cl) (times_lawful (K L) S τ) (times_multiple (K L) S τ) in
          ap (λ (p : Place (K L) S). p.ideal) (place_unique (K L) S π (closest_place (K L) S ck))

      pub key_there : KeyIs L A δ (offer L A b) k
      key_there =
          let (q, τ) = times_exists (K L) S δ (at b 0) in
          let π = place_multiple (K L) S δ (at b 0) q (closest_floor t ε b cl) (times_lawful (K L) S τ) (times_multiple (K L) S τ) in
          let e = place_unique (K L) S π (closest_place (K L) S ck) in
          (b, offer_reads, (δ * ε - far, subst (Times (K L) S (at b 0) δ) e τ))

      abbrev asks_k : List Question
      asks_k = (Other L A (offer L A b) if_not 44) ∷ (OtherKey L A δ (offer L A b) if_not 45) ∷ []

      pub take_accepts : (a : Ideals L A) → b ≢ unit_ideal L A → k ≢ unit_ideal L A
          → Answers (take_asks L (opened A a δ) (offer L A b)) accepted
      take_accepts a h g = inl (
        tt,
        hold_then up_to43 asks_k accepted offer_asked_lem
            (inl ((b, offer_reads, h), inl ((k, key_there, g), refl))),
      )

      pub take_refuses : (a : Ideals L A) → b ≢ unit_ideal L A → k ≡ unit_ideal L A
          → Answers (take_asks L (opened A a δ) (offer L A b)) (refused 45)
      take_refuses a h e = inl (
        tt,
        hold_then up_to43 asks_k (refused 45) offer_asked_lem
            (inl ((b, offer_reads, h), inr ((λ o. o.2 (key_is o.0 o.1 ∙ e)), refl))),
      )
