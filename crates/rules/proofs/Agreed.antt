-- Agreement.
use Rattle.std.proofs.Common.{◌≡◌, ℕ, suc, ◌+◌, ◌*◌, ◌≤◌, ◌≢◌, List, ◌++◌, sym, refl, ap, ◌∙◌, subst, ap₂, subst₂, inl, inr, mul_comm, arith}
use native.Mathlib.Decide.{dec_le}
use Rattle.field.specs.Meaning.{Meaning, Lawful}
use Rattle.algebra.proofs.Adds.{adds_exists}
use Rattle.algebra.proofs.Group.{sum_adds}
use Rattle.algebra.proofs.Unique.{ideal_path}
use Rattle.algebra.proofs.Line.{place_legal, place_sum}
use Rattle.rules.specs.Questions.{Answer, accepted, refused, Hold}
use Rattle.rules.specs.Packets.{number}
use Rattle.rules.specs.Settings.{setting, Accepted, Ideals, unit_ideal, Closest, offer}
use Rattle.rules.specs.Ends.{State, opened, keyed, tell, take, key, Open, ideal_asks, questions, Does}
use Rattle.rules.specs.Places.{Given, Places, Shows, Means, place_asks, Add, codes_of, poly_from}
use Rattle.rules.specs.Runs.{Side, left, right, Run, Told, Takes, Keys, OffersOf, Meets, SumsOf, Agreement}
use Rattle.rules.proofs.Answering.{answers_unique, answers_hold, hold_append, hold_answers}
use Rattle.rules.proofs.Spelled.{codes_low, codes_read}
use Rattle.rules.proofs.Offered.{closest_unique, closest_legal, take_accepts, take_refuses, key_is, ideal_holds}
use Rattle.rules.proofs.Openings.{Inside, calls_does, keyed_until, opening_begins, opening_keeps}
use Rattle.algebra.specs.Places.{place}
use Rattle.algebra.specs.Lines.{PlaceAt}
use Rattle.algebra.specs.Codes.{K}

module _ {M : Meaning} (L : Lawful M) (A : Accepted L) (run : Run L A) (σ : Side) where
  -- an opening tells its ideal's offer
  told_is : (a : Ideals L A) (δ b : ℕ) (x : List ℕ) → run.end σ (suc b) ≡ opened A a δ → Told L A run σ b x → x ≡ offer L A a
  told_is a δ b x e t = go (opening_keeps L A run σ a δ b t.when t.within t.tells.happens e)
    where
      d : Does L (run.end σ t.when) (tell t.room) accepted (run.event t.when).written (run.end σ (suc t.when))
      d = calls_does L A run σ t.when (tell t.room) accepted t.tells

      at : (s : State L) → run.end σ t.when ≡ s
          → Does L s (tell t.room) accepted (run.event t.when).written (run.end σ (suc t.when))
      at s p = rw (sym p) d

      go : Inside L A a δ (run.end σ t.when) → x ≡ offer L A a
      go (inl p) = sym t.wrote ∙ (at (opened A a δ) p).after.0
      go (inr (k, p)) = sym t.wrote ∙ (at (keyed A a δ k) p).after.0

  -- a take, made while the end is open, of the offer of an ideal c at distance ε
  module _ (a : Ideals L A) (δ b i : ℕ) (x : List ℕ) (ans : Answer) (e : run.end σ (suc b) ≡ opened A a δ) (t : Takes L A run σ b i x ans)
      (c : Ideals L A) (n ε : ℕ) (cl : Closest L A n c ε) (other : c ≢ unit_ideal L A) (is : x ≡ offer L A c)
      (k : Ideals L A) (far : ℕ) (ck : Closest L A (δ * ε) k far) where
    still_open : Inside L A a δ (run.end σ i) → run.end σ i ≡ opened A a δ
    still_open (inl p) = p
    still_open (inr (x, p)) = absurd (subst (Open L) p t.while_open)

    taken_at : run.end σ i ≡ opened A a δ
    taken_at = still_open (opening_keeps L A run σ a δ b i t.within t.takes.happens e)

    does : Does L (opened A a δ) (take (offer L A c)) ans (run.event i).written (run.end σ (suc i))
    does = rw (sym is, sym taken_at) (calls_does L A run σ i (take x) ans t.takes)

    take_accepted : k ≢ unit_ideal L A → ans ≡ accepted
    take_accepted h = answers_unique (questions L (opened A a δ) (take (offer L A c))) ans accepted does.answer
        (take_accepts L A c (closest_legal L A n ε c cl) n δ ε cl k far ck a other h)

    take_45 : k ≡ unit_ideal L A → ans ≡ refused 45
    take_45 h = answers_unique (questions L (opened A a δ) (take (offer L A c))) ans (refused 45) does.answer
        (take_refuses L A c (closest_legal L A n ε c cl) n δ ε cl k far ck a other h)

    -- the end is then keyed with k
    then_keyed : ans ≡ accepted → run.end σ (suc i) ≡ keyed A a δ k
    then_keyed h =
        let d = subst (λ y. Does L (opened A a δ) (take (offer L A c)) y (run.event i).written (run.end σ (suc i))) h does in
        let (z, kz, p) = d.after.1 in
        p ∙ ap (λ (y : Ideals L A). keyed A a δ y) (key_is L A c (closest_legal L A n ε c cl) n δ ε cl k far ck z kz)

    keys_are : ans ≡ accepted → Keys L A run σ b k
    keys_are h j room w call = go (opening_keeps L A run σ a δ b j w call.happens e) (dec_le j i)
      where
        at : (s : State L) → run.end σ j ≡ s → Does L s (key room) accepted (run.event j).written (run.end σ (suc j))
        at s p = rw (sym p) (calls_does L A run σ j (key room) accepted call)

        go : Inside L A a δ (run.end σ j) → Dec (j ≤ i) → (run.event j).written ≡ offer L A k
        go (inl p) g = absurd (answers_hold (questions L (opened A a δ) (key room)) (at (opened A a δ) p).answer).0
        go (inr (y, p)) (yes g) =
            let l = t.takes.happens in
            let q = keyed_until L A run σ a y δ j i g (omega arith) (λ u v z. t.within.lasts u (let m = w.later in omega arith) (omega arith)) p in
            absurd (subst (Open L) q t.while_open)
        go (inr (y, p)) (no g) =
            let l = call.happens in
            let q = keyed_until L A run σ a k δ (suc i) j (omega arith) (omega arith) (λ u v z. w.lasts u (let m = t.within.later in omega arith) (omega arith)) (then_keyed h) in
            (at (keyed A a δ k) q).after.0

-- (a)
offers_of : {M : Meaning} (L : Lawful M) (A : Accepted L) (run : Run L A) → OffersOf L A run
offers_of L A run σ b secret x o t =
    let (a, δ, cl, n, e) = opening_begins L A run σ b secret o in
    (a, δ, cl, told_is L A run σ a δ b x e t)

-- (b)
meets : {M : Meaning} (L : Lawful M) (A : Accepted L) (run : Run L A) → Meets L A run
meets L A run b c δ ε e k far ck =
    let (a, δ₁, ca, na, ea) = opening_begins L A run left b e.secret e.opening in
    let (a', ε₁, ca', na', ea') = opening_begins L A run right c e.secret' e.opening' in
    let u : δ₁ ≡ δ = (closest_unique L A (number e.secret) δ₁ δ a e.own.0 ca e.own.1).1 in
    let v : ε₁ ≡ ε = (closest_unique L A (number e.secret') ε₁ ε a' e.own'.0 ca' e.own'.1).1 in
    let x = told_is L A run left a δ₁ b e.told ea e.tells in
    let x' = told_is L A run right a' ε₁ c e.told' ea' e.tells' in
    let ck₁ : Closest L A (δ₁ * ε₁) k far = rw (u, v) ck in
    let ck₂ : Closest L A (ε₁ * δ₁) k far = rw (mul_comm ε₁ δ₁) ck₁ in (
      (λ h.
          let y = take_accepted L A run left a δ₁ b e.when e.told' e.ans ea e.takes a' (number e.secret') ε₁ ca' na' x' k far ck₁ h in
          let y' = take_accepted L A run right a' ε₁ c e.when' e.told e.ans' ea' e.takes' a (number e.secret) δ₁ ca na x k far ck₂ h in (
            y,
            y',
            keys_are L A run left a δ₁ b e.when e.told' e.ans ea e.takes a' (number e.secret') ε₁ ca' na' x' k far ck₁ y,
            keys_are L A run right a' ε₁ c e.when' e.told e.ans' ea' e.takes' a (number e.secret) δ₁ ca na x k far ck₂ y',
          )),
      (λ h. (
        take_45 L A run left a δ₁ b e.when e.told' e.ans ea e.takes a' (number e.secret') ε₁ ca' na' x' k far ck₁ h,
        take_45 L A run right a' ε₁ c e.when' e.told e.ans' ea' e.takes' a (number e.secret) δ₁ ca na x k far ck₂ h,
      )),
    )

-- (c)
module _ {M : Meaning} (L : Lawful M) (A : Accepted L) where
  -- what shows the place p is read as p
  shows_means : (p : Places L A) (g : Given) → Shows L A p g → Means L A g p
  shows_means p g (e, f, o) = (sym (ap (poly_from L) e ∙ codes_read L p.ideal.Q), sym (ap (poly_from L) f ∙ codes_read L p.ideal.P), sym o)

  means_one : (p q : Places L A) (g : Given) → Means L A g p → Means L A g q → p ≡ q
  means_one p q g (e, f, o) (e', f', o') =
      ap₂ (place (K L) (setting L A)) (ideal_path (K L) (setting L A) p.ideal q.ideal (e ∙ sym e') (f ∙ sym f')) (o ∙ sym o')

  -- and has all of a place's questions answered with yes
  place_asked : (t : ℕ) (p : Places L A) (g : Given) → PlaceAt (K L) (setting L A) t p → Shows L A p g → Hold (place_asks L A g)
  place_asked t p g π (e, f, o) =
      let l = place_legal (K L) (setting L A) π in
      let m = shows_means p g (e, f, o) in
      let i = subst₂ (λ Q P. Hold (ideal_asks L A Q P)) m.0 m.1
      (ideal_holds L A p.ideal (record { standard = l.standard; fits = omega (arith, l.fits) })) in
      let n : g.off + (K L).len (poly_from L g.Q) ≤ A.m = omega (arith, l.fits, ap (K L).len m.0) in (
        (rw e (codes_low L p.ideal.Q), rw f (codes_low L p.ideal.P)),
        (i.0, (i.1.0, (i.1.1.0, (i.1.1.1.0, (n, tt))))),
      )

  sums_of : SumsOf L A
  sums_of s t p q g h π ρ γ η =
      let (c, f, α) = adds_exists (K L) (setting L A) p.ideal p.off q.ideal q.off in
      record {
        asked = hold_answers (place_asks L A g ++ place_asks L A h)
            (hold_append (place_asks L A g) (place_asks L A h) (place_asked s p g π γ) (place_asked t q h ρ η));
        some = (
          record { Q = codes_of L c.Q; P = codes_of L c.P; off = f },
          (p, q, place (K L) (setting L A) c f, shows_means p g γ, shows_means q h η, α, (refl, refl, refl)),
        );
        only = λ z (p', q', x, μ, ν, β, ζ).
            (let β' = subst₂ (λ (a b : Places L A). Add L A a b x) (means_one p' p g μ (shows_means p g γ)) (means_one q' q h ν (shows_means q h η)) β in
            let (l, e) = sum_adds (K L) (setting L A) p q x β' in
            (x, place_sum (K L) (setting L A) p q x π ρ l e, ζ));
      }

pub agreement : Agreement
agreement M L A = record { a = offers_of L A; b = meets L A; c = sums_of L A }
