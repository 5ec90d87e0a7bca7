-- Runs of two ends, openings in them, and what agreement says.
use Rattle.std.specs.Prelude.{◌≡◌, ℕ, suc, ◌+◌, ◌*◌, ◌<◌, ◌≤◌, ◌≢◌, List, ◌++◌}
use Rattle.field.specs.Meaning.{Meaning, Lawful}
use Rattle.rules.specs.Questions.{Answer, accepted, refused, Answers}
use Rattle.rules.specs.Packets.{number}
use Rattle.rules.specs.Settings.{Accepted, setting, Ideals, unit_ideal, Closest, offer}
use Rattle.rules.specs.Ends.{State, ready, Call, «open», tell, take, key, close, Open, Does}
use Rattle.rules.specs.Places.{Given, Places, Shows, place_asks, AddGives}
use Rattle.algebra.specs.Lines.{PlaceAt}
use Rattle.algebra.specs.Codes.{K}

pub data Side : Type 0 where
  left : Side
  right : Side

-- a call at a side, its answer, and the bytes written
pub record Event : Type 0 where
  pub side : Side
  pub call : Call
  pub answer : Answer
  pub written : List ℕ

module _ {M : Meaning} (L : Lawful M) (A : Accepted L) where
  -- a run: event 0, event 1, and so on below the count, at two ends that are newly loaded with one setting.
  -- `end σ i` is the end at the side σ before event i
  pub record Run : Type 0 where
    pub count : ℕ
    pub event : ℕ → Event
    pub end : Side → ℕ → State L
    pub starts : (σ : Side) → end σ 0 ≡ ready A
    pub moves : (i : ℕ) → i < count
        → Does L (end (event i).side i) (event i).call (event i).answer (event i).written (end (event i).side (suc i))
    pub rests : (i : ℕ) (σ : Side) → i < count → (event i).side ≢ σ → end σ (suc i) ≡ end σ i

  module _ (run : Run) (σ : Side) where
    -- event i is this call at this side, with this answer
    pub record Calls (i : ℕ) (c : Call) (ans : Answer) : Type 0 where
      pub happens : i < run.count
      pub here : (run.event i).side ≡ σ
      pub call_is : (run.event i).call ≡ c
      pub answer_is : (run.event i).answer ≡ ans

    -- an opening begins with event b, an accepted open, at the setting A
    pub record Opening (b : ℕ) (secret : List ℕ) : Type 0 where
      pub begins : Calls b («open» secret) accepted
      pub same : run.end σ b ≡ ready A

    -- it lasts until the next close: event i is in the opening that begins with event b
    pub record Within (b i : ℕ) : Type 0 where
      pub later : b < i
      pub lasts : (j : ℕ) → b < j → j ≤ i → (run.event j).side ≡ σ → (run.event j).call ≢ close

    -- the opening told these bytes
    pub record Told (b : ℕ) (x : List ℕ) : Type 0 where
      pub when : ℕ
      pub room : ℕ
      pub within : Within b when
      pub tells : Calls when (tell room) accepted
      pub wrote : (run.event when).written ≡ x

    -- event i takes x while the end is open, in the opening, and answers ans
    pub record Takes (b i : ℕ) (x : List ℕ) (ans : Answer) : Type 0 where
      pub within : Within b i
      pub takes : Calls i (take x) ans
      pub while_open : Open L (run.end σ i)

    -- every accepted key call in the opening writes the offer of k
    abbrev pub Keys : ℕ → Ideals L A → Type 0
    Keys b k = (i room : ℕ) → Within b i → Calls i (key room) accepted → (run.event i).written ≡ offer L A k

  -- (a) an opening with the secret number n tells nothing but the offer of the ideal closest to the left of n
  abbrev pub OffersOf : Run → Type 0
  OffersOf run = (σ : Side) (b : ℕ) (secret x : List ℕ) → Opening run σ b secret → Told run σ b x
      → (a : Ideals L A) × (δ : ℕ) × Closest L A (number secret) a δ × (x ≡ offer L A a)

  -- (b) an opening at each side, with the own distances δ and ε, and a take at each side, made while that end is open, of
  -- bytes that the other opening told
  pub record Exchange (run : Run) (b c δ ε : ℕ) : Type 0 where
    pub secret : List ℕ
    pub secret' : List ℕ
    pub opening : Opening run left b secret
    pub opening' : Opening run right c secret'
    pub own : (a : Ideals L A) × Closest L A (number secret) a δ
    pub own' : (a : Ideals L A) × Closest L A (number secret') a ε
    pub told : List ℕ
    pub told' : List ℕ
    pub tells : Told run left b told
    pub tells' : Told run right c told'
    pub when : ℕ
    pub when' : ℕ
    pub ans : Answer
    pub ans' : Answer
    pub takes : Takes run left b when told' ans
    pub takes' : Takes run right c when' told ans'

  -- then, with k the ideal closest to the left of δ × ε: if k is not (1), both takes are accepted and every accepted key
  -- call in those openings writes k's offer; if k is (1), both takes answer 45
  abbrev pub Meets : Run → Type 0
  Meets run = (b c δ ε : ℕ) (e : Exchange run b c δ ε) (k : Ideals L A) (far : ℕ) → Closest L A (δ * ε) k far
      → (k ≢ unit_ideal L A → (e.ans ≡ accepted) × (e.ans' ≡ accepted) × Keys run left b k × Keys run right c k)
      × (k ≡ unit_ideal L A → (e.ans ≡ refused 45) × (e.ans' ≡ refused 45))

  -- (c) add refuses neither place s nor place t, gives a place for them, and gives nothing but place s + t
  pub record Sums (s t : ℕ) (g h : Given) : Type 0 where
    pub asked : Answers (place_asks L A g ++ place_asks L A h) accepted
    pub some : (z : Given) × AddGives L A g h z
    pub only : (z : Given) → AddGives L A g h z → (x : Places L A) × PlaceAt (K L) (setting L A) (s + t) x × Shows L A x z

  abbrev pub SumsOf : Type 0
  SumsOf = (s t : ℕ) (p q : Places L A) (g h : Given) → PlaceAt (K L) (setting L A) s p → PlaceAt (K L) (setting L A) t q
      → Shows L A p g → Shows L A q h → Sums s t g h

-- for every lawful field, every accepted setting and every run
pub record Agrees {M : Meaning} (L : Lawful M) (A : Accepted L) : Type 0 where
  pub a : (run : Run L A) → OffersOf L A run
  pub b : (run : Run L A) → Meets L A run
  pub c : SumsOf L A

abbrev pub Agreement : Type 0
Agreement = (M : Meaning) (L : Lawful M) (A : Accepted L) → Agrees L A
