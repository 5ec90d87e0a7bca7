-- Every question has an answer, and so every end does every call.
use Rattle.std.proofs.Common.{◌≡◌, ℕ, ◌+◌, ◌-◌, ◌/◌, ◌%◌, ◌<◌, ◌≢◌, List, [], ◌∷◌, ◌++◌, length, replicate, sym, refl, ap, ◌∙◌, arith}
use mathlib.Core.HLevel.{Discrete}
use mathlib.Core.Logic.Dec
use native.Mathlib.Decide.{ℕ_discrete, dec_le, dec_lt}
use Rattle.field.specs.Meaning.{Meaning, Lawful}
use Rattle.algebra.specs.Codes.{R, K}
use Rattle.ring.proofs.Ring.{⊗-zero, sub_self→eq, Divides}
use Rattle.ring.proofs.Quote.{quote, auto}
use Rattle.ring.proofs.Hypotheses.{by_hyp₂}
use Rattle.ring.proofs.PolyRing.{PolyRing}
use Rattle.ring.proofs.Euclid.{gcd, common_len, remainder_unique}
use Rattle.algebra.proofs.Unique.{ideal_path}
use Rattle.algebra.proofs.Multiples.{times_exists}
use Rattle.algebra.proofs.Line.{place_exists, place_closest}
use Rattle.rules.specs.Questions.{Question, Answer, accepted, refused, Answers, Hold, ◌if_not◌}
use Rattle.std.specs.List.{AllByRecursion}
use Rattle.rules.specs.Packets.{number, byte, kind, start, long, first, second, body, words, Leads, packet_asks, body_asks}
use Rattle.rules.specs.Settings.{EvenDegree, unit, Monic, Coprime, Accepted, setting, Ideals, unit_ideal, poly_of}
use Rattle.rules.specs.Ends.{State, blank, ready, opened, keyed, Call, load, «open», tell, take, key, close, BlankOrReady, Ready, Open, Keyed, OpenOrKeyed, OpensTo, ideal_asks, Reads, Other, KeyIs, OtherKey, SizeIs, offered, offered_key, secret_asks, offer_asks, closed, wiped, questions, Leaves, Does, Settled}
use Rattle.rules.proofs.Answering.{Decided, answers_exist, answers_hold}
use Rattle.rules.proofs.Offered.{closest_unique}
use Rattle.rules.proofs.Determined.{code?, key_unique, does_unique}
use Rattle.rules.proofs.Roots.{accepted_exists}
use Rattle.algebra.specs.Places.{place}

and₃ : {A B C : Type 0} → Dec A → Dec B → Dec C → Dec (A × B × C)
and₃ a b c = Dec.of_iff (λ h. (h.0, h.1.0, h.1.1), λ h. (h.0, (h.1, h.2))) (Dec.and a (Dec.and b c))

all_low? : (q : ℕ) (ns : List ℕ) → Dec (AllByRecursion (λ c. c < q) ns)
all_low? q [] = yes tt
all_low? q (n ∷ ns) = Dec.and (dec_lt n q) (all_low? q ns)

leads? : (ns : List ℕ) → Dec (Leads ns)
leads? [] = yes tt
leads? (n ∷ ns) = Dec.not (ℕ_discrete n 0)

decided_append : (qs rs : List Question) → Decided qs → Decided rs → Decided (qs ++ rs)
decided_append [] rs d e = e
decided_append (q ∷ qs) rs d e = (d.0, decided_append qs rs d.1 e)

packet? : (k l : ℕ) (x : List ℕ) → Decided (packet_asks k l x)
packet? k l x = (
  dec_le 11 (length x),
  (
    ℕ_discrete (byte x 0) 2,
    (
      Dec.and (ℕ_discrete (kind x first) k) (ℕ_discrete (kind x second) l),
      (and₃ (ℕ_discrete (start x first) 11) (ℕ_discrete (start x second) (11 + long x first)) (ℕ_discrete (length x) (start x second + long x second)), tt),
    ),
  ),
)

body? : (q : ℕ) (b : List ℕ) → Decided (body_asks q b)
body? q b = (ℕ_discrete (length b % 4) 0, (all_low? q (words b), (leads? (words b), tt)))

module _ {C X : Type 0} (P : PolyRing C X) where
  infixl 60 ◌⊕◌
  infixl 70 ◌⊗◌
  infix 80 ⊖◌
  open P use {r, len, coef, k}
  open P.r use {𝟘, 𝟙, ◌⊕◌, ⊖◌, ◌⊗◌}

  poly? : Discrete X
  poly? p q = Dec.of_iff (sub_self→eq r p q, λ e. ap (λ x. x ⊕ ⊖ q) e ∙ r.⊕-neg q) (P.zero? (p ⊕ ⊖ q))

  divides? : (Q Y : X) → Q ≢ 𝟘 → Dec (Divides r Q Y)
  divides? Q Y h =
      let (q, s, e, l) = P.divide Y Q h in
      Dec.of_iff (
        λ z. (q, e ∙ ap (λ x. q ⊗ Q ⊕ x) z ∙ r.⊕-zero (q ⊗ Q)),
        λ d. remainder_unique P Q q s d.0 𝟘 (sym e ∙ d.1 ∙ sym (r.⊕-zero (d.0 ⊗ Q))) l (omega (arith, P.len_zero)),
      ) (P.zero? s)

  divides_any? : (Q Y : X) → Dec (Divides r Q Y)
  divides_any? Q Y = elim (P.zero? Q) [
    | no h ↦ divides? Q Y h
    | yes z ↦ elim (P.zero? Y) [
      | yes e ↦ yes (𝟘, e ∙ auto r (Q ∷ []) (search quote depth 20) tt)
      | no n ↦ no (λ d. n (d.1 ∙ ap (λ x. d.0 ⊗ x) z ∙ ⊗-zero r d.0))
    ]
  ]

  coprime? : (p q : X) → Dec ((g : X) → Divides r g p → Divides r g q → len g ≡ 1)
  coprime? p q =
      let G = gcd P p q in
      elim (ℕ_discrete (len G.g) 1) [
        | yes e ↦ (let (u, h) = P.unit G.g e in
            let one : (u ⊗ G.x) ⊗ p ⊕ (u ⊗ G.y) ⊗ q ≡ 𝟙 = by_hyp₂ r (⊖ u) G.is 𝟙 h
            (auto r (p ∷ q ∷ u ∷ G.g ∷ G.x ∷ G.y ∷ []) (search quote depth 20) tt) in
            yes (λ g. common_len P p q (u ⊗ G.x) (u ⊗ G.y) g one))
        | no n ↦ no (λ c. n (c G.g G.left G.right))
      ]

module _ {M : Meaning} (L : Lawful M) where
  monic? : (p : R L) → Dec (Monic L p)
  monic? p = elim (ℕ_discrete ((K L).len p) 0) [
    | yes e ↦ no (λ h. (let l = h.1 in absurd (omega arith)))
    | no n ↦ elim (code? L ((K L).coef p ((K L).len p - 1)) (unit L)) [
      | yes t ↦ yes ((K L).len p - 1, omega arith, t)
      | no f ↦ no (λ h. f (let l = h.1 in let z : h.0 ≡ (K L).len p - 1 = omega arith in rw (sym z) h.2))
    ]
  ]

  even? : (D : R L) → Dec (EvenDegree L D)
  even? D =
      let n : ℕ = (K L).len D / 2 in
      Dec.of_iff (λ h. (n, h.0, h.1, h.2), λ h. (let a = h.1 in let b = h.2 in let c = h.3 in (omega arith, omega arith, omega arith)))
      (and₃ (ℕ_discrete ((K L).len D) (n + n + 1)) (dec_le 2 n) (dec_le n 25))

  module _ (A : Accepted L) where
    ideal? : (a b : Ideals L A) → Dec (a ≡ b)
    ideal? a b = Dec.of_iff (
      λ h. ideal_path (K L) (setting L A) a b h.0 h.1,
      λ e. (ap (λ (x : Ideals L A). x.Q) e, ap (λ (x : Ideals L A). x.P) e),
    ) (Dec.and (poly? (K L) a.Q b.Q) (poly? (K L) a.P b.P))

    opens? : (n : List ℕ) → Dec (OpensTo L A n)
    opens? n =
        let (p, π) = place_exists (K L) (setting L A) (number n) in
        elim (ideal? p.ideal (unit_ideal L A)) [
          | yes e ↦ no (λ o. o.3 ((closest_unique L A (number n) o.1 π.distance o.0 p.ideal o.2 (place_closest (K L) (setting L A) π)).0 ∙ e))
          | no f ↦ yes (p.ideal, π.distance, place_closest (K L) (setting L A) π, f)
        ]

    reads? : (x : List ℕ) → Dec ((b : Ideals L A) × Reads L A x b)
    reads? x =
        let Q = poly_of L (body x first) in
        let P = poly_of L (body x second) in
        elim ((K L).zero? Q) [
          | yes z ↦ no (λ h. h.0.alive (h.1.0 ∙ z))
          | no f ↦ elim (divides? (K L) Q ((K L).r.◌⊕◌ A.D ((K L).r.⊖◌ ((K L).r.◌⊗◌ P P))) f) [
            | yes d ↦ yes (record { Q = Q; P = P; alive = f; exact = d }, (refl, refl))
            | no g ↦ no (λ h. g (rw (sym h.1.0, sym h.1.1) h.0.exact))
          ]
        ]

    other? : (x : List ℕ) → Dec (Other L A x)
    other? x = elim (reads? x) [
      | no f ↦ no (λ h. f (h.0, h.1))
      | yes b ↦ elim (ideal? b.0 (unit_ideal L A)) [
        | yes e ↦ no (λ h. h.2 (ideal_path (K L) (setting L A) h.0 b.0 (h.1.0 ∙ sym b.1.0) (h.1.1 ∙ sym b.1.1) ∙ e))
        | no f ↦ yes (b.0, b.1, f)
      ]
    ]

    key_of : (δ : ℕ) (x : List ℕ) (b : Ideals L A) → Reads L A x b → (k : Ideals L A) × KeyIs L A δ x k
    key_of δ x b h =
        let (q, τ) = times_exists (K L) (setting L A) δ (place (K L) (setting L A) b 0) in
        (q.ideal, (b, h, (q.off, τ)))

    other_key? : (δ : ℕ) (x : List ℕ) → Dec (OtherKey L A δ x)
    other_key? δ x = elim (reads? x) [
      | no f ↦ no (λ h. f (h.1.0, h.1.1))
      | yes b ↦ (let (k, κ) = key_of δ x b.0 b.1 in
          elim (ideal? k (unit_ideal L A)) [
            | yes e ↦ no (λ h. h.2 (key_unique L A δ x h.0 k h.1 κ ∙ e))
            | no f ↦ yes (k, κ, f)
          ])
    ]

    offer? : (δ : ℕ) (x : List ℕ) (a : Ideals L A) → Decided (offer_asks L (opened A a δ) x)
    offer? δ x a =
        let Q = poly_of L (body x first) in
        let P = poly_of L (body x second) in
        decided_append (packet_asks 3 4 x ++ body_asks M.size (body x first) ++ body_asks M.size (body x second) ++ ideal_asks L A Q P) ((Other L A x if_not 44) ∷ (OtherKey L A δ x if_not 45) ∷ [])
        (decided_append (packet_asks 3 4 x ++ body_asks M.size (body x first) ++ body_asks M.size (body x second)) (ideal_asks L A Q P)
        (decided_append (packet_asks 3 4 x ++ body_asks M.size (body x first)) (body_asks M.size (body x second))
        (decided_append (packet_asks 3 4 x) (body_asks M.size (body x first)) (packet? 3 4 x) (body? M.size (body x first)))
        (body? M.size (body x second))) (
          Dec.and (dec_le 1 ((K L).len Q)) (dec_le ((K L).len Q) A.m),
          (
            monic? Q,
            (
              dec_lt ((K L).len P) ((K L).len Q),
              (divides_any? (K L) Q ((K L).r.◌⊕◌ A.D ((K L).r.⊖◌ ((K L).r.◌⊗◌ P P))), tt),
            ),
          ),
        ))
        (other? x, (other_key? δ x, tt))

  ready_blank? : (s : State L) → Dec (BlankOrReady L s)
  ready_blank? blank = yes tt
  ready_blank? (ready A) = yes tt
  ready_blank? (opened A a δ) = no (λ h. h)
  ready_blank? (keyed A a δ k) = no (λ h. h)

  ready? : (s : State L) → Dec (Ready L s)
  ready? blank = no (λ h. h)
  ready? (ready A) = yes tt
  ready? (opened A a δ) = no (λ h. h)
  ready? (keyed A a δ k) = no (λ h. h)

  open? : (s : State L) → Dec (Open L s)
  open? blank = no (λ h. h)
  open? (ready A) = no (λ h. h)
  open? (opened A a δ) = yes tt
  open? (keyed A a δ k) = no (λ h. h)

  keyed? : (s : State L) → Dec (Keyed L s)
  keyed? blank = no (λ h. h)
  keyed? (ready A) = no (λ h. h)
  keyed? (opened A a δ) = no (λ h. h)
  keyed? (keyed A a δ k) = yes tt

  open_keyed? : (s : State L) → Dec (OpenOrKeyed L s)
  open_keyed? blank = no (λ h. h)
  open_keyed? (ready A) = no (λ h. h)
  open_keyed? (opened A a δ) = yes tt
  open_keyed? (keyed A a δ k) = yes tt

  secret? : (s : State L) (n : List ℕ) → Decided (secret_asks L s n)
  secret? blank n = tt
  secret? (ready A) n = (opens? A n, tt)
  secret? (opened A a δ) n = tt
  secret? (keyed A a δ k) n = tt

  taken? : (s : State L) (x : List ℕ) → Decided (offer_asks L s x)
  taken? blank x = tt
  taken? (ready A) x = tt
  taken? (opened A a δ) x = offer? A δ x a
  taken? (keyed A a δ k) x = tt

  load? : (x : List ℕ) → Decided ((SizeIs L (body x first) if_not 20) ∷ body_asks M.size (body x second)
      ++ (EvenDegree L (poly_of L (body x second)) if_not 21) ∷ (Monic L (poly_of L (body x second)) if_not 22)
      ∷ (Coprime L (poly_of L (body x second)) ((K L).der (poly_of L (body x second))) if_not 23) ∷ [])
  load? x = let D = poly_of L (body x second) in (
    Dec.and (ℕ_discrete (length (body x first)) 4) (ℕ_discrete (number (body x first)) M.size),
    (
      ℕ_discrete (length (body x second) % 4) 0,
      (
        all_low? M.size (words (body x second)),
        (
          leads? (words (body x second)),
          (even? D, (monic? D, (coprime? (K L) D ((K L).der D), tt))),
        ),
      ),
    ),
  )

  -- every question of every call has the answer yes or no
  pub questions_decided : (s : State L) (c : Call) → Decided (questions L s c)
  questions_decided s (load x) = let p = packet? 1 2 x in (ready_blank? s, (p.0, (p.1.0, (p.1.1.0, (p.1.1.1.0, load? x)))))
  questions_decided s («open» n) = (ready? s, (Dec.and (dec_le 1 (length n)) (dec_le (length n) 32), secret? s n))
  questions_decided s (tell room) = (open_keyed? s, (dec_le (length (offered L s)) room, tt))
  questions_decided s (take x) = (open? s, taken? s x)
  questions_decided s (key room) = (keyed? s, (dec_le (length (offered_key L s)) room, tt))
  questions_decided s close = tt

  -- an accepted call leaves an end
  leaves : (s : State L) (c : Call) → Hold (questions L s c) → (w : List ℕ) × (t : State L) × Leaves L s c w t
  leaves s (load x) h =
      let e = h.1.1.1.1.1.1.1.1.1 in
      let (A, q) = accepted_exists L (poly_of L (body x second)) e.0 e.1.0 e.1.1.0 in
      ([], ready A, (A, q, refl, refl))
  leaves blank («open» n) h = absurd h.0
  leaves (ready A) («open» n) h = let (a, δ, cl, o) = h.1.1.0 in (replicate (length n) 0, opened A a δ, (refl, (a, δ, cl, refl)))
  leaves (opened A a δ) («open» n) h = absurd h.0
  leaves (keyed A a δ k) («open» n) h = absurd h.0
  leaves s (tell room) h = (offered L s, s, (refl, refl))
  leaves blank (take x) h = absurd h.0
  leaves (ready A) (take x) h = absurd h.0
  leaves (opened A a δ) (take x) h =
      let o = h.1.1.1.1.1.1.1.1.1.1.1.1.1.1.1.1.0 in
      ([], keyed A a δ o.0, (refl, (o.0, o.1, refl)))
  leaves (keyed A a δ k) (take x) h = absurd h.0
  leaves s (key room) h = (offered_key L s, s, (refl, refl))
  leaves s close h = ([], closed L s, (refl, refl))

  -- every end does every call
  pub does_exists : (s : State L) (c : Call) → (ans : Answer) × (w : List ℕ) × (t : State L) × Does L s c ans w t
  does_exists s c = let (ans, α) = answers_exist (questions L s c) (questions_decided s c) in go ans α
    where
      go : (ans : Answer) → Answers (questions L s c) ans → (ans : Answer) × (w : List ℕ) × (t : State L) × Does L s c ans w t
      go accepted α = let (w, t, l) = leaves s c (answers_hold (questions L s c) α) in (accepted, w, t, record { answer = α; after = l })
      go (refused n) α = (refused n, wiped L c, s, record { answer = α; after = (refl, refl) })

pub settled : Settled
settled M L s c = (does_exists L s c, does_unique L s c)
