-- Places handed in and given out.
use Rattle.std.proofs.Common.{◌≡◌, ℕ, ◌+◌, ◌-◌, ◌<◌, ◌≤◌, List, [], ◌∷◌, ◌++◌, Ok, Err, Result, sym, refl, ap, ◌∙◌, subst, ap₂, inl, ⊎_elim, arith}
use Rattle.std.proofs.lemmas.Bool.{cases_lt}
use Rattle.field.specs.Meaning.{Meaning, Lawful}
use Rattle.field.specs.Refusals.{refusal_number}
use Rattle.field.specs.declared.refusal.Refusal.{Refusal}
use Rattle.algebra.specs.Codes.{zero_low, R, K}
use Rattle.algebra.specs.Places.{place}
use Rattle.algebra.specs.Lines.{PlaceAt}
use Rattle.algebra.proofs.Unique.{ideal_path}
use Rattle.rules.specs.Questions.{◌if_not◌, Answer, Answers, accepted, refused}
use Rattle.std.specs.List.{AllByRecursion}
use Rattle.rules.specs.Packets.{number, words}
use Rattle.rules.specs.Settings.{Accepted, setting}
use Rattle.rules.specs.Ends.{State, blank, ready, opened, keyed, ideal_asks}
use Rattle.rules.specs.Places.{Given, codes_of, poly_from, Places, Means, Shows, Loaded, place_asks, sum_asks, add_asks, FindGives, AddGives}
use Rattle.rules.proofs.Answering.{accepted≢refused, answers_unique, accepted_then, refused_then}
use Rattle.rules.proofs.Written.{words_spell}
use Rattle.rules.proofs.Spelled.{body_words, codes_read}
use Rattle.rules.proofs.Agreed.{agreement}
use Rattle.poly.specs.Values.{at, size, Codes, value, Is}
use Rattle.poly.specs.declared.poly.Poly.{Poly}
use Rattle.poly.proofs.Bridge.{self, moved}
use Rattle.packet.specs.Polynomials.{codes_down}
use Rattle.packet.proofs.Words.{all_at, all_from}
use Rattle.packet.proofs.Records.{codes_length, codes_at, codes_value}
use Rattle.ideal.specs.Values.{SettingIs}
use Rattle.ideal.specs.Results.{IdealMade}
use Rattle.ideal.specs.declared.setting.Setting.{Setting}
use Rattle.ideal.specs.declared.ideal.Ideal.{Ideal}
use Rattle.place.specs.Values.{PlaceIs, HoldsAt}
use Rattle.place.specs.Results.{offset_asks, PlaceMade, Found, Added, AddedAt}
use Rattle.place.specs.declared.place.Place.{Place}
use Rattle.end.specs.declared.end.End.{End}
use Rattle.end.specs.declared.end.GivenPlace.{GivenPlace}
use Rattle.end.specs.Modes.{InLoaded, Holds}
use Rattle.end.specs.Values.{EndIs}
use Rattle.end.specs.Results.{OneTo32}
use Rattle.end.specs.Places.{given, shown, Under, PlaceRead, Finds, Adds, AddsOnLine}
use Rattle.end.proofs.Standing.{finds_when, setting_holds}

-- the codes of a record, by their degree and in their order
pub low_from : (q : ℕ) (p : Poly) → ((k : ℕ) → k < size p → at p k < q) → AllByRecursion (λ c. c < q) (codes_down p)
low_from q p h = all_from (λ c. c < q) (codes_down p) (λ k l.
    (let n = codes_length p in
    let s : k < size p = omega arith in
    subst (λ (c : ℕ). c < q) (sym (codes_at p k s)) (h (size p - 1 - k) (omega arith))))

pub low_at : (q : ℕ) (p : Poly) → AllByRecursion (λ c. c < q) (codes_down p) → (k : ℕ) → k < size p → at p k < q
low_at q p h k l =
    let n = codes_length p in
    let i : ℕ = size p - 1 - k in
    let back : size p - 1 - i ≡ k = omega arith in
    subst (λ (c : ℕ). c < q) (codes_at p i (omega arith) ∙ ap (at p) back) (all_at (λ c. c < q) (codes_down p) i h (omega arith))

module _ {M : Meaning} (L : Lawful M) where
  -- a record shows the codes of the polynomial that it stands for
  pub codes_shown : (p : Poly) (v : R L) → Is L p v → codes_down p ≡ codes_of L v
  codes_shown p v is =
      sym (words_spell (codes_down p) (low_from 4294967296 p (λ k l. (let h = is.low k in let m = L.high in omega arith))))
      ∙ ap words (codes_value L p v is)
      ∙ body_words L v

  -- and stands for the polynomial that its codes are read as
  pub given_is : (p : Poly) → AllByRecursion (λ c. c < M.size) (codes_down p) → Is L p (poly_from L (codes_down p))
  given_is p h =
      let low : Codes M p = λ k. ⊎_elim (low_at M.size p h k) (λ l. subst (λ (c : ℕ). c < M.size) (sym (p.past k l)) (zero_low L)) (cases_lt k (size p)) in
      let is = self L p low in
      moved L is (sym (ap (poly_from L) (codes_shown p (value L p) is) ∙ codes_read L (value L p)))

  pub record_shows : (A : Accepted L) (p : Place) (π : Places L A) → PlaceIs L A p π → Shows L A π (shown p)
  record_shows A p π is = (
    codes_shown p.ideal.q π.ideal.Q is.ideal_is.Q_is,
    codes_shown p.ideal.p π.ideal.P is.ideal_is.P_is,
    is.off_is,
  )

  -- what shows a place is read as that place
  pub same_place : (A : Accepted L) (g : Given) (π ρ : Places L A) → Means L A g π → Shows L A ρ g → π ≡ ρ
  same_place A g π ρ means shows = ap₂ (place (K L) (setting L A))
      (ideal_path (K L) (setting L A) π.ideal ρ.ideal (means.0 ∙ ap (poly_from L) shows.0 ∙ codes_read L ρ.ideal.Q)
      (means.1 ∙ ap (poly_from L) shows.1 ∙ codes_read L ρ.ideal.P))
      (means.2 ∙ shows.2)

module _ (M : Meaning) (t : Setting) (g : GivenPlace) where
  module _ (q_low : AllByRecursion (λ c. c < M.size) (codes_down g.q)) (p_low : AllByRecursion (λ c. c < M.size) (codes_down g.p)) where
    pub ideal_away : (f : Refusal) → IdealMade M t g.q g.p (Err f) → PlaceRead M t g (Err f)
    ideal_away f made L A is =
        let X = poly_from L (codes_down g.q) in
        let Y = poly_from L (codes_down g.p) in
        inl (
          (q_low, p_low),
          refused_then (ideal_asks L A X Y) ((g.offset + (K L).len X ≤ A.m if_not 46) ∷ []) (refusal_number f)
              (made L A X Y is (given_is L g.q q_low) (given_is L g.p p_low)),
        )

    asked : (L : Lawful M) (A : Accepted L) (Q : R L) (a : Answer) → Q ≡ poly_from L (codes_down g.q)
        → Answers (ideal_asks L A (poly_from L (codes_down g.q)) (poly_from L (codes_down g.p))) accepted → Answers (offset_asks L A Q g.offset) a
        → Answers (place_asks L A (given g)) a
    asked L A Q a Q_is h k =
        let X = poly_from L (codes_down g.q) in
        let Y = poly_from L (codes_down g.p) in
        inl (
          (q_low, p_low),
          accepted_then (ideal_asks L A X Y) (offset_asks L A X g.offset) a h
              (subst (λ (Z : R L). Answers (offset_asks L A Z g.offset) a) Q_is k),
        )

    pub place_read : (a : Ideal) → IdealMade M t g.q g.p (Ok a) → (r : Result Place Refusal) → PlaceMade t a g.offset r → PlaceRead M t g r
    place_read a made (Ok p) there L A is =
        let h = made L A (poly_from L (codes_down g.q)) (poly_from L (codes_down g.p)) is (given_is L g.q q_low) (given_is L g.p p_low) in
        let (b, Q_is, P_is, standard, b_is) = h.1 in
        let k = there M L A b is b_is standard in
        (asked L A b.Q accepted Q_is h.0 k.0, (place (K L) (setting L A) b g.offset, (Q_is, P_is, refl), k.1, k.2))
    place_read a made (Err f) there L A is =
        let h = made L A (poly_from L (codes_down g.q)) (poly_from L (codes_down g.p)) is (given_is L g.q q_low) (given_is L g.p p_low) in
        let (b, Q_is, P_is, standard, b_is) = h.1 in
        asked L A b.Q (refused (refusal_number f)) Q_is h.0 (there M L A b is b_is standard)

-- A is the setting of the state s
record Stands {M : Meaning} (L : Lawful M) (s : State L) (A : Accepted L) : Type 1 where
  under : (P : Accepted L → Type 0) → P A → Under L s P
  back : (P : Accepted L → Type 0) → Under L s P → P A
  sums : (g h : Given) (a : Answer) → Answers (place_asks L A g ++ place_asks L A h) a → Answers (sum_asks L s g h) a

module _ {M : Meaning} (L : Lawful M) where
  stands : (s : State L) → Loaded L s → (A : Accepted L) × Stands L s A
  stands blank ok = absurd ok
  stands (ready A) ok = (A, record { under = λ P h. h; back = λ P h. h; sums = λ g h a p. p })
  stands (opened A a δ) ok = (A, record { under = λ P h. h; back = λ P h. h; sums = λ g h a p. p })
  stands (keyed A a δ k) ok = (A, record { under = λ P h. h; back = λ P h. h; sums = λ g h a p. p })

  loaded_under : (s : State L) (P : Accepted L → Type 0) → Under L s P → Loaded L s
  loaded_under blank P h = h
  loaded_under (ready A) P h = tt
  loaded_under (opened A a δ) P h = tt
  loaded_under (keyed A a δ k) P h = tt

module _ {F : Type 0} {M : Meaning} (e : End F) (t : Setting) (ok : InLoaded e.mode) (holds : Holds e.mode t) where
  -- the setting that the mode holds is that of the state
  at_setting : (L : Lawful M) (s : State L) → EndIs L e s → (A : Accepted L) × SettingIs L A t × Stands L s A
  at_setting L s is =
      let (A, st) = stands L s ((finds_when L e s is).0 ok) in
      (A, st.back (λ B. SettingIs L B t) (setting_holds L e t s is holds), st)

  pub found_place : (n : List ℕ) (p : Place) → OneTo32 n → Found M t n p → Finds M e n (Ok p)
  found_place n p size found L s is =
      let (A, A_is, st) = at_setting L s is in
      let h = found L A A_is in (
        inl ((finds_when L e s is).0 ok, inl (size, refl)),
        st.under (λ B. HoldsAt L B (number n) p × FindGives L B n (shown p)) (h, (h.0, h.1, record_shows L A p h.0 h.2)),
      )

  module _ (g h : GivenPlace) where
    pub first_away : (f : Refusal) → PlaceRead M t g (Err f) → Adds M e g h (Err f)
    first_away f read L s is =
        let (A, A_is, st) = at_setting L s is in
        inl (
          (finds_when L e s is).0 ok,
          st.sums (given g) (given h) (refused (refusal_number f))
              (refused_then (place_asks L A (given g)) (place_asks L A (given h)) (refusal_number f) (read L A A_is)),
        )

    module _ (p : Place) (read : PlaceRead M t g (Ok p)) where
      pub second_away : (f : Refusal) → PlaceRead M t h (Err f) → Adds M e g h (Err f)
      second_away f read' L s is =
          let (A, A_is, st) = at_setting L s is in
          inl (
            (finds_when L e s is).0 ok,
            st.sums (given g) (given h) (refused (refusal_number f))
                (accepted_then (place_asks L A (given g)) (place_asks L A (given h)) (refused (refusal_number f)) (read L A A_is).0 (read' L A A_is)),
          )

      module _ (q : Place) (read' : PlaceRead M t h (Ok q)) (r : Place) where
        pub sum_made : Added M t p q r → Adds M e g h (Ok r)
        sum_made added L s is =
            let (A, A_is, st) = at_setting L s is in
            let (π, means, lawful, p_is) = (read L A A_is).1 in
            let (ρ, means', lawful', q_is) = (read' L A A_is).1 in
            let (σ, adds, r_is) = added L A π ρ A_is p_is q_is lawful lawful' in (
              inl (
                (finds_when L e s is).0 ok,
                st.sums (given g) (given h) accepted
                    (accepted_then (place_asks L A (given g)) (place_asks L A (given h)) accepted (read L A A_is).0 (read' L A A_is).0),
              ),
              st.under (λ B. AddGives L B (given g) (given h) (shown r)) (π, ρ, σ, means, means', adds, record_shows L A r σ r_is),
            )

        pub sum_on_line : AddedAt M t p q r → AddsOnLine M e g h (Ok r)
        sum_on_line added L s is A under i j π ρ at_i at_j shows shows' =
            let (B, B-is, st) = at_setting L s is in
            let A_is : SettingIs L A t = subst (λ (C : Accepted L). SettingIs L C t) (st.back (λ C. C ≡ A) under) B-is in
            let (π', means, lawful, p_is) = (read L A A_is).1 in
            let (ρ', means', lawful', q_is) = (read' L A A_is).1 in
            added L A i j A_is
            (π', subst (PlaceAt (K L) (setting L A) i) (sym (same_place L A (given g) π' π means shows)) at_i, p_is)
            (ρ', subst (PlaceAt (K L) (setting L A) j) (sym (same_place L A (given h) ρ' ρ means' shows')) at_j, q_is)

-- places of the line are never refused
pub line_accepted : {F : Type 0} {M : Meaning} (e : End F) (g h : GivenPlace) (f : Refusal) → Adds M e g h (Err f) → AddsOnLine M e g h (Err f)
line_accepted {M = M} e g h f adds L s is A under i j π ρ at_i at_j shows shows' =
    let loaded = loaded_under L s (λ B. B ≡ A) under in
    let (B, st) = stands L s loaded in
    let same : B ≡ A = st.back (λ C. C ≡ A) under in
    let asked = ((agreement M L A).c i j π ρ (given g) (given h) at_i at_j shows shows').asked in
    let passed : Answers (add_asks L s (given g) (given h)) accepted = inl (
      loaded,
      st.sums (given g) (given h) accepted
          (subst (λ (C : Accepted L). Answers (place_asks L C (given g) ++ place_asks L C (given h)) accepted) (sym same) asked),
    ) in
    accepted≢refused accepted (refusal_number f) refl (answers_unique (add_asks L s (given g) (given h)) accepted (refused (refusal_number f)) passed (adds L s is))
