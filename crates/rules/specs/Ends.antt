-- Ends: what an end is, the calls, the questions of each call in their order, and what an accepted call leaves.
use Rattle.std.specs.Prelude.{◌≡◌, ℕ, ◌<◌, ◌≤◌, ◌≢◌, List, [], ◌∷◌, ◌++◌, length, replicate}
use Rattle.field.specs.Meaning.{Meaning, Lawful}
use Rattle.algebra.specs.Codes.{R, K}
use Rattle.rules.specs.Questions.{Question, ◌if_not◌, Answer, accepted, refused, Answers}
use Rattle.rules.specs.Packets.{number, packet_asks, body_asks, body, first, second}
use Rattle.rules.specs.Settings.{Monic, setting_asks, Accepted, Ideals, unit_ideal, Closest, MultipleOf, poly_of, offer}
use Rattle.ring.proofs.Ring.{Divides}

-- an end: ready with its setting; open with its ideal and its own distance too; keyed with its key too
pub data State {M : Meaning} (L : Lawful M) : Type 0 where
  blank : State L
  ready : Accepted L → State L
  opened : (A : Accepted L) → Ideals L A → ℕ → State L
  keyed : (A : Accepted L) → Ideals L A → ℕ → Ideals L A → State L

-- a call, with the bytes or the room that it is handed
pub data Call : Type 0 where
  load : List ℕ → Call
  «open» : List ℕ → Call
  tell : ℕ → Call
  take : List ℕ → Call
  key : ℕ → Call
  close : Call

module _ {M : Meaning} (L : Lawful M) where
  infixl 60 ◌⊕◌
  infixl 70 ◌⊗◌
  infix 80 ⊖◌
  open K L use {r, len, der}
  open (K L).r use {◌⊕◌, ⊖◌, ◌⊗◌}

  abbrev pub BlankOrReady : State L → Type 0
  BlankOrReady blank = Unit {0}
  BlankOrReady (ready A) = Unit {0}
  BlankOrReady (opened A a δ) = ⊥
  BlankOrReady (keyed A a δ k) = ⊥

  abbrev pub Ready : State L → Type 0
  Ready blank = ⊥
  Ready (ready A) = Unit {0}
  Ready (opened A a δ) = ⊥
  Ready (keyed A a δ k) = ⊥

  abbrev pub Open : State L → Type 0
  Open blank = ⊥
  Open (ready A) = ⊥
  Open (opened A a δ) = Unit {0}
  Open (keyed A a δ k) = ⊥

  abbrev pub Keyed : State L → Type 0
  Keyed blank = ⊥
  Keyed (ready A) = ⊥
  Keyed (opened A a δ) = ⊥
  Keyed (keyed A a δ k) = Unit {0}

  abbrev pub OpenOrKeyed : State L → Type 0
  OpenOrKeyed blank = ⊥
  OpenOrKeyed (ready A) = ⊥
  OpenOrKeyed (opened A a δ) = Unit {0}
  OpenOrKeyed (keyed A a δ k) = Unit {0}

  -- LOAD takes a setting packet. Is body 1 four bytes with the value q? Is the degree even and from 4 to 50?
  abbrev pub SizeIs : List ℕ → Type 0
  SizeIs b = (length b ≡ 4) × (number b ≡ M.size)

  abbrev pub load_asks : State L → List ℕ → List Question
  load_asks s x = let D = poly_of L (body x second) in
      (BlankOrReady s if_not 30)
      ∷ packet_asks 1 2 x
      ++ (SizeIs (body x first) if_not 20)
      ∷ body_asks M.size (body x second)
      ++ setting_asks L D

  -- the end is then ready
  abbrev pub LoadLeaves : List ℕ → List ℕ → State L → Type 0
  LoadLeaves x w s' = (A : Accepted L) × (A.D ≡ poly_of L (body x second)) × (w ≡ []) × (s' ≡ ready A)

  -- OPEN takes a secret, a number with its high byte first. Is its ideal other than (1)?
  abbrev pub OpensTo : (A : Accepted L) → List ℕ → Type 0
  OpensTo A n = (a : Ideals L A) × (δ : ℕ) × Closest L A (number n) a δ × (a ≢ unit_ideal L A)

  abbrev pub secret_asks : State L → List ℕ → List Question
  secret_asks blank n = []
  secret_asks (ready A) n = (OpensTo A n if_not 33) ∷ []
  secret_asks (opened A a δ) n = []
  secret_asks (keyed A a δ k) n = []

  abbrev pub open_asks : State L → List ℕ → List Question
  open_asks s n = (Ready s if_not 31) ∷ (((1 ≤ length n) × (length n ≤ 32)) if_not 32) ∷ secret_asks s n

  -- the end keeps the ideal and its own distance
  abbrev pub OpenLeaves : State L → List ℕ → State L → Type 0
  OpenLeaves blank n s' = ⊥
  OpenLeaves (ready A) n s' = (a : Ideals L A) × (δ : ℕ) × Closest L A (number n) a δ × (s' ≡ opened A a δ)
  OpenLeaves (opened A a δ) n s' = ⊥
  OpenLeaves (keyed A a δ k) n s' = ⊥

  -- what tell writes: the offer; and what key writes: the key's offer
  abbrev pub offered : State L → List ℕ
  offered blank = []
  offered (ready A) = []
  offered (opened A a δ) = offer L A a
  offered (keyed A a δ k) = offer L A a

  abbrev pub offered_key : State L → List ℕ
  offered_key blank = []
  offered_key (ready A) = []
  offered_key (opened A a δ) = []
  offered_key (keyed A a δ k) = offer L A k

  -- TELL writes the offer
  abbrev pub tell_asks : State L → ℕ → List Question
  tell_asks s room = (OpenOrKeyed s if_not 34) ∷ (length (offered s) ≤ room if_not 35) ∷ []

  -- KEY writes the key's offer
  abbrev pub key_asks : State L → ℕ → List Question
  key_asks s room = (Keyed s if_not 37) ∷ (length (offered_key s) ≤ room if_not 35) ∷ []

  -- the questions of an ideal (Q, P)
  abbrev pub ideal_asks : Accepted L → R L → R L → List Question
  ideal_asks A Q P =
      (((1 ≤ len Q) × (len Q ≤ A.m)) if_not 40)
      ∷ (Monic L Q if_not 41)
      ∷ (len P < len Q if_not 42)
      ∷ (Divides r Q (A.D ⊕ ⊖ (P ⊗ P)) if_not 43)
      ∷ []

  -- the packet x is read as the ideal b
  abbrev pub Reads : (A : Accepted L) → List ℕ → Ideals L A → Type 0
  Reads A x b = (b.Q ≡ poly_of L (body x first)) × (b.P ≡ poly_of L (body x second))

  -- Is the ideal other than (1)? The key is the ideal of the multiple of that ideal, at offset 0, by the own distance.
  -- Is the key other than (1)?
  abbrev pub Other : (A : Accepted L) → List ℕ → Type 0
  Other A x = (b : Ideals L A) × Reads A x b × (b ≢ unit_ideal L A)

  abbrev pub KeyIs : (A : Accepted L) → ℕ → List ℕ → Ideals L A → Type 0
  KeyIs A δ x k = (b : Ideals L A) × Reads A x b × MultipleOf L A δ b k

  abbrev pub OtherKey : (A : Accepted L) → ℕ → List ℕ → Type 0
  OtherKey A δ x = (k : Ideals L A) × KeyIs A δ x k × (k ≢ unit_ideal L A)

  -- TAKE reads an offer
  abbrev pub offer_asks : State L → List ℕ → List Question
  offer_asks blank x = []
  offer_asks (ready A) x = []
  offer_asks (opened A a δ) x =
      packet_asks 3 4 x
      ++ body_asks M.size (body x first)
      ++ body_asks M.size (body x second)
      ++ ideal_asks A (poly_of L (body x first)) (poly_of L (body x second))
      ++ (Other A x if_not 44)
      ∷ (OtherKey A δ x if_not 45)
      ∷ []
  offer_asks (keyed A a δ k) x = []

  abbrev pub take_asks : State L → List ℕ → List Question
  take_asks s x = (Open s if_not 36) ∷ offer_asks s x

  -- the end is then keyed
  abbrev pub TakeLeaves : State L → List ℕ → State L → Type 0
  TakeLeaves blank x s' = ⊥
  TakeLeaves (ready A) x s' = ⊥
  TakeLeaves (opened A a δ) x s' = (k : Ideals L A) × KeyIs A δ x k × (s' ≡ keyed A a δ k)
  TakeLeaves (keyed A a δ k) x s' = ⊥

  -- CLOSE makes an open or keyed end ready; a blank or ready end stays as it is
  abbrev pub closed : State L → State L
  closed blank = blank
  closed (ready A) = ready A
  closed (opened A a δ) = ready A
  closed (keyed A a δ k) = ready A

  -- the questions of a call
  abbrev pub questions : State L → Call → List Question
  questions s (load x) = load_asks s x
  questions s («open» n) = open_asks s n
  questions s (tell room) = tell_asks s room
  questions s (take x) = take_asks s x
  questions s (key room) = key_asks s room
  questions s close = []

  -- what an accepted call writes, and the end that it leaves
  abbrev pub Leaves : State L → Call → List ℕ → State L → Type 0
  Leaves s (load x) w s' = LoadLeaves x w s'
  Leaves s («open» n) w s' = (w ≡ replicate (length n) 0) × OpenLeaves s n s'
  Leaves s (tell room) w s' = (w ≡ offered s) × (s' ≡ s)
  Leaves s (take x) w s' = (w ≡ []) × TakeLeaves s x s'
  Leaves s (key room) w s' = (w ≡ offered_key s) × (s' ≡ s)
  Leaves s close w s' = (w ≡ []) × (s' ≡ closed s)

  -- a refused call writes nothing, but for the secret's bytes, which are zero on every way out; the end stays as it is
  abbrev pub wiped : Call → List ℕ
  wiped (load x) = []
  wiped («open» n) = replicate (length n) 0
  wiped (tell room) = []
  wiped (take x) = []
  wiped (key room) = []
  wiped close = []

  abbrev pub After : State L → Call → Answer → List ℕ → State L → Type 0
  After s c accepted w s' = Leaves s c w s'
  After s c (refused n) w s' = (w ≡ wiped c) × (s' ≡ s)

  -- the end s does the call c: it answers ans, writes w, and is s' then
  pub record Does (s : State L) (c : Call) (ans : Answer) (w : List ℕ) (s' : State L) : Type 0 where
    pub answer : Answers (questions s c) ans
    pub after : After s c ans w s'

-- the rules leave nothing open: every end does every call, and in one way
abbrev pub Settled : Type 0
Settled = (M : Meaning) (L : Lawful M) (s : State L) (c : Call)
    → ((ans : Answer) × (w : List ℕ) × (s' : State L) × Does L s c ans w s')
    × ((a b : Answer) (w v : List ℕ) (t u : State L) → Does L s c a w t → Does L s c b v u → (a ≡ b) × (w ≡ v) × (t ≡ u))
