-- Taking an offer: its questions, one table after the other, and the key.
use Rattle.std.proofs.Common.{◌≡◌, ℕ, Bool, true, false, List, [], ◌∷◌, ◌++◌, Some, None, Option, Ok, Err, Decides, Result, sym, refl, ap, ◌∙◌, subst, inl, inr, true≢false, arith, MatchResult}
use Rattle.std.specs.Option.{unwrap_or}
use Rattle.field.specs.Meaning.{Meaning, Lawful}
use Rattle.field.specs.Refusals.{refusal_number}
use Rattle.field.specs.declared.refusal.Refusal.{Refusal}
use Rattle.field.specs.declared.refusal.Refusal.TheVariants.{NotReduced}
use Rattle.algebra.specs.Codes.{R, K}
use Rattle.algebra.specs.Ideals.{Standard, LawfulAt}
use Rattle.algebra.specs.Places.{place}
use Rattle.algebra.proofs.Unique.{ideal_path}
use Rattle.algebra.proofs.Multiples.{times_lawful}
use Rattle.rules.specs.Questions.{Question, ◌if_not◌, Answer, Answers, accepted, refused}
use Rattle.rules.specs.Packets.{number, body, first, second}
use Rattle.rules.specs.Settings.{Accepted, setting, Ideals, unit_ideal, poly_of}
use Rattle.rules.specs.Ends.{State, opened, keyed, take, ideal_asks, Reads, Other, KeyIs, OtherKey, questions, Does}
use Rattle.rules.specs.Places.{Places}
use Rattle.rules.proofs.Answering.{accepted≢refused, answers_hold, accepted_then, refused_then}
use Rattle.rules.proofs.Determined.{key_unique}
use Rattle.poly.specs.declared.poly.Poly.{Poly}
use Rattle.packet.specs.Contents.{offer_asked}
use Rattle.packet.specs.Polynomials.{Held, Longer, Reading}
use Rattle.ideal.specs.Values.{SettingIs, IdealIs}
use Rattle.ideal.specs.Results.{IdealMade, IsOne}
use Rattle.ideal.specs.declared.setting.Setting.{Setting}
use Rattle.ideal.specs.declared.ideal.Ideal.{Ideal}
use Rattle.place.specs.Values.{HoldsTimes}
use Rattle.place.specs.Results.{PlaceMade, Repeated}
use Rattle.place.specs.declared.place.Place.{Place}
use Rattle.end.specs.declared.modes.Mode.TheVariants.{Keyed}
use Rattle.end.specs.declared.end.End.{End}
use Rattle.end.specs.Modes.{InOpen, Holds}
use Rattle.end.specs.Values.{EndIs}
use Rattle.end.specs.Results.{Follows, offer_questions, OfferRead}
use Rattle.end.proofs.Standing.{setting_holds, by_open, refuses}

module _ (M : Meaning) (t : Setting) (x : List ℕ) where
  pub bodies_away : (f : Refusal) → Answers (offer_asked M.size x) (refused (refusal_number f)) → OfferRead M t x (Err f)
  bodies_away f h L A is = refused_then (offer_asked M.size x) (ideal_asks L A (poly_of L (body x first)) (poly_of L (body x second))) (refusal_number f) h

  module _ (asked : Answers (offer_asked M.size x) accepted) where
    before : (L : Lawful M) (A : Accepted L) (a : Answer) → Answers (ideal_asks L A (poly_of L (body x first)) (poly_of L (body x second))) a
        → Answers (offer_questions L A x) a
    before L A a h = accepted_then (offer_asked M.size x) (ideal_asks L A (poly_of L (body x first)) (poly_of L (body x second))) a asked h

    -- Q is longer than any reduced one
    pub long_q : Longer M (body x first) → OfferRead M t x (Err NotReduced)
    long_q longer L A is = before L A (refused 40) (inr ((λ h. omega (arith, h.1, A.high, longer.long L)), refl))

    module _ (q : Poly) (q_held : Held M (body x first) q) where
      -- the ideal of the records q and p
      ideal_read : (p : Poly) → Held M (body x second) p → (r : Result Ideal Refusal) → IdealMade M t q p r → OfferRead M t x r
      ideal_read p p_held (Ok a) made L A is =
          let h = made L A (poly_of L (body x first)) (poly_of L (body x second)) is (q_held.is L) (p_held.is L) in
          let (b, Q_is, P_is, standard, b_is) = h.1 in
          let l = (answers_hold (ideal_asks L A (poly_of L (body x first)) (poly_of L (body x second))) h.0).0.1 in
          (before L A accepted h.0, (b, (Q_is, P_is), record { standard = standard; fits = omega (arith, ap (K L).len Q_is) }, b_is))
      ideal_read p p_held (Err f) made L A is =
          before L A (refused (refusal_number f)) (made L A (poly_of L (body x first)) (poly_of L (body x second)) is (q_held.is L) (p_held.is L))

      -- P is longer than any record, and Q meets the same answers in its place
      long_p : Longer M (body x second) → (r : Result Ideal Refusal) → IdealMade M t q q r → OfferRead M t x r
      long_p longer r made L A is = go r (made L A X X is (q_held.is L) (q_held.is L))
        where
          X : R L
          X = poly_of L (body x first)

          Y : R L
          Y = poly_of L (body x second)

          same : (n : ℕ) → Answers (ideal_asks L A X X) (refused n) → Answers (ideal_asks L A X Y) (refused n)
          same n (inr h) = inr h
          same n (inl (reduced, inr h)) = inl (reduced, inr h)
          same n (inl (reduced, inl (monic, inr h))) = inl (reduced, inl (monic, inr ((λ l. omega (arith, longer.long L, reduced.1, A.high)), h.1)))
          same n (inl (reduced, inl (monic, inl (lower, h)))) = absurd (omega (arith, lower))

          go : (r : Result Ideal Refusal)
              → MatchResult r (λ a. Answers (ideal_asks L A X X) accepted × ((b : Ideals L A) × (b.Q ≡ X) × (b.P ≡ X) × Standard (K L) (setting L A) b × IdealIs L A a b))
              (λ e. Answers (ideal_asks L A X X) (refused (refusal_number e)))
              → MatchResult r (λ a. Answers (offer_questions L A x) accepted × ((b : Ideals L A) × Reads L A x b × LawfulAt (K L) (setting L A) b 0 × IdealIs L A a b))
              (λ e. Answers (offer_questions L A x) (refused (refusal_number e)))
          go (Ok a) h = (let l = (answers_hold (ideal_asks L A X X) h.0).1.1.0 in absurd (omega arith))
          go (Err f) h = before L A (refused (refusal_number f)) (same (refusal_number f) h)

      -- the ideal of Q and of what stands for P
      pub either_p : (o : Option Poly) → Reading M (body x second) o → (r : Result Ideal Refusal) → IdealMade M t q (unwrap_or o q) r → OfferRead M t x r
      either_p (Some p) held r made = ideal_read p held r made
      either_p None longer r made = long_p longer r made

-- the offer x is read as the ideal that the record i holds
abbrev ReadAs : {M : Meaning} (L : Lawful M) (A : Accepted L) → List ℕ → Ideal → Type 0
ReadAs L A x i = Answers (offer_questions L A x) accepted × ((b : Ideals L A) × Reads L A x b × LawfulAt (K L) (setting L A) b 0 × IdealIs L A i b)

module _ {M : Meaning} (L : Lawful M) (A : Accepted L) (x : List ℕ) (i : Ideal) (h : ReadAs L A x i) where
  module _ (one : Bool) (asked : IsOne i one) where
    unit_or_not : Decides one (h.1.0 ≡ unit_ideal L A)
    unit_or_not = asked M L A h.1.0 h.1.3 h.1.2.standard

    not_other : one ≡ true → ¬ (Other L A x)
    not_other o (b, reads, differs) =
        differs (ideal_path (K L) (setting L A) b h.1.0 (reads.0 ∙ sym h.1.1.0) (reads.1 ∙ sym h.1.1.1) ∙ unit_or_not.0 o)

    other : one ≡ false → Other L A x
    other o = (h.1.0, h.1.1, (λ u. true≢false (sym (unit_or_not.1 u) ∙ o)))

  -- the place of the ideal at the offset 0
  abbrev here : Places L A
  here = place (K L) (setting L A) h.1.0 0

  module _ (δ : ℕ) (m : Place) (times : HoldsTimes L A here δ m) (one : Bool) (asked : IsOne m.ideal one) where
    key_is : KeyIs L A δ x times.0.ideal
    key_is = (h.1.0, h.1.1, (times.0.off, times.1))

    key_unit_or_not : Decides one (times.0.ideal ≡ unit_ideal L A)
    key_unit_or_not = asked M L A times.0.ideal times.2.ideal_is (times_lawful (K L) (setting L A) times.1).standard

    not_other_key : one ≡ true → ¬ (OtherKey L A δ x)
    not_other_key o (k, κ, differs) = differs (key_unique L A δ x k times.0.ideal κ key_is ∙ key_unit_or_not.0 o)

    other_key : one ≡ false → OtherKey L A δ x
    other_key o = (times.0.ideal, key_is, (λ u. true≢false (sym (key_unit_or_not.1 u) ∙ o)))

-- the questions behind those of the offer
abbrev rest : {M : Meaning} (L : Lawful M) (A : Accepted L) → List ℕ → ℕ → List Question
rest L A x δ = (Other L A x if_not 44) ∷ (OtherKey L A δ x if_not 45) ∷ []

-- the end, keyed with a key
abbrev pub with_key : {F : Type 0} → End F → Setting → Ideal → End F
with_key e t k = record { field = e.field; mode = Keyed t; ideal = e.ideal; distance = e.distance; key = k }

module _ {F : Type 0} {M : Meaning} (e : End F) (x : List ℕ) (t : Setting) (ok : InOpen e.mode) (holds : Holds e.mode t) where
  -- a refusal is one if it is so for every open state
  refuses_open : (n : ℕ) → ((L : Lawful M) (A : Accepted L) (a : Ideals L A) (δ : ℕ) → SettingIs L A t → number e.distance ≡ δ
      → Answers (offer_questions L A x ++ rest L A x δ) (refused n)) → Follows M e (take x) (refused n) [] e
  refuses_open n h = refuses e (take x) n []
      (by_open e ok (λ L s. Answers (questions L s (take x)) (refused n) × (◌≡◌ {A = List ℕ} [] []))
      (λ L A a δ is. (inl (tt, h L A a δ (setting_holds L e t (opened A a δ) is holds) is.4), refl)))

  pub offer_away : (f : Refusal) → OfferRead M t x (Err f) → Follows M e (take x) (refused (refusal_number f)) [] e
  offer_away f read = refuses_open (refusal_number f)
      (λ L A a δ A_is d. refused_then (offer_questions L A x) (rest L A x δ) (refusal_number f) (read L A A_is))

  module _ (i : Ideal) (read : OfferRead M t x (Ok i)) (one : Bool) (asked : IsOne i one) where
    pub trivial_offer : one ≡ true → Follows M e (take x) (refused 44) [] e
    trivial_offer o = refuses_open 44 (λ L A a δ A_is d.
        accepted_then (offer_questions L A x) (rest L A x δ) (refused 44) (read L A A_is).0 (inr (not_other L A x i (read L A A_is) one asked o, refl)))

    -- a reduced ideal has a place at the offset 0
    pub place_there : (f : Refusal) → PlaceMade t i 0 (Err f) → Follows M e (take x) (refused (refusal_number f)) [] e
    place_there f made = refuses_open (refusal_number f) (λ L A a δ A_is d.
        (let h = (read L A A_is).1 in
        elim (made M L A h.0 A_is h.3 h.2.standard) [
          | inl p ↦ absurd (accepted≢refused (refused (refusal_number f)) (refusal_number f) p.1 refl)
          | inr p ↦ absurd (p.0 h.2.fits)
        ]))

    module _ (o : one ≡ false) (p : Place) (made : PlaceMade t i 0 (Ok p)) (m : Place) (repeated : Repeated M t p e.distance m)
        (one' : Bool) (asked' : IsOne m.ideal one') where
      times : (L : Lawful M) (A : Accepted L) (A_is : SettingIs L A t) (δ : ℕ) → number e.distance ≡ δ → HoldsTimes L A (here L A x i (read L A A_is)) δ m
      times L A A_is δ d =
          let h = (read L A A_is).1 in
          let there = made M L A h.0 A_is h.3 h.2.standard in
          subst (λ (n : ℕ). HoldsTimes L A (here L A x i (read L A A_is)) n m) d (repeated L A (here L A x i (read L A A_is)) A_is there.2 there.1)

      pub trivial_key : one' ≡ true → Follows M e (take x) (refused 45) [] e
      trivial_key o' = refuses_open 45 (λ L A a δ A_is d.
          (let h = read L A A_is in
          accepted_then (offer_questions L A x) (rest L A x δ) (refused 45) h.0
          (inl (other L A x i h one asked o, inr (not_other_key L A x i h δ m (times L A A_is δ d) one' asked' o', refl)))))

      pub taken : one' ≡ false → (k : Ideal) → k ≡ m.ideal → Follows M e (take x) accepted [] (with_key e t k)
      taken o' k k_is = by_open e ok
          (λ L s. (s' : State L) × Does L s (take x) accepted [] s' × EndIs L (with_key e t k) s')
          (λ L A a δ is.
          (let A_is = setting_holds L e t (opened A a δ) is holds in
          let h = read L A A_is in
          let τ = times L A A_is δ is.4 in (
            keyed A a δ τ.0.ideal,
            record {
              answer = inl (
                tt,
                accepted_then (offer_questions L A x) (rest L A x δ) accepted h.0
                    (inl (other L A x i h one asked o, inl (other_key L A x i h δ m τ one' asked' o', refl))),
              );
              after = (refl, (τ.0.ideal, key_is L A x i h δ m τ one' asked', refl));
            },
            (
              t,
              refl,
              A_is,
              is.3,
              is.4,
              subst (λ (j : Ideal). IdealIs L A j τ.0.ideal) (sym k_is) τ.2.ideal_is,
            ),
          )))
