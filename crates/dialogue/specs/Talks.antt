-- What a script of calls at two ends makes of a run.
use Rattle.std.specs.Prelude.{◌≡◌, ℕ, ◌+◌, ◌<◌, List, [], ◌∷◌, length, vec_items, slice_index_or}
use Rattle.field.specs.Meaning.{Meaning, Lawful}
use Rattle.rules.specs.Questions.{answer_of}
use Rattle.rules.specs.Settings.{Accepted}
use Rattle.rules.specs.Ends.{ready}
use Rattle.rules.specs.Runs.{Side as Where, left, right, Event as Happening, Run, OffersOf, Meets, SumsOf}
use Rattle.end.specs.Values.{EndIs}
use Rattle.end.specs.declared.end.End.{End}
use Rattle.dialogue.specs.Scripts.{call_of, Performed}
use Rattle.dialogue.specs.declared.script.Side.{Side}
use Rattle.dialogue.specs.declared.script.Side.TheVariants.{Left, Right}
use Rattle.dialogue.specs.declared.script.Order.{Order}
use Rattle.dialogue.specs.declared.script.Line.{Line}
use Rattle.dialogue.specs.declared.script.Event.{Event}

-- the end at the side does the order as the rules say, and the other end stays as it is
abbrev pub Acts : {F : Type 0} → Meaning → Meaning → Side → Order → Event → End F → End F → End F → End F → Type 0
Acts M N Left o ev l r l' r' = Performed M l o ev l' × (r' ≡ r)
Acts M N Right o ev l r l' r' = Performed N r o ev r' × (l' ≡ l)

abbrev pub side_of : Side → Where
side_of Left = left
side_of Right = right

-- a line of a script and what was logged for it, as an event of the rules
abbrev pub event_of : Line → Event → Happening
event_of line ev = record {
  side = side_of line.side;
  call = call_of line.order;
  answer = answer_of ev.answer;
  written = vec_items ev.written;
}

-- the events of a script with its log
abbrev pub events : List Line → List Event → List Happening
events [] log = []
events (line ∷ script) [] = []
events (line ∷ script) (ev ∷ log) = event_of line ev ∷ events script log

-- the log has one event for each line, at the side of that line
abbrev pub Logs : List Line → List Event → Type 0
Logs [] [] = Unit {0}
Logs [] (ev ∷ log) = ⊥
Logs (line ∷ script) [] = ⊥
Logs (line ∷ script) (ev ∷ log) = (ev.side ≡ line.side) × Logs script log

module _ {M : Meaning} (L : Lawful M) (A : Accepted L) where
  -- the longer run has the events of the run, and then these
  pub record Extends (run : Run L A) (es : List Happening) (longer : Run L A) : Type 0 where
    pub count : longer.count ≡ run.count + length es
    pub old : (i : ℕ) → i < run.count → longer.event i ≡ run.event i
    pub new : (i : ℕ) (d : Happening) → i < length es → longer.event (run.count + i) ≡ slice_index_or es i d

  -- the two ends are as the run leaves them
  pub record Stands {F : Type 0} (run : Run L A) (l r : End F) : Type 0 where
    pub at_left : EndIs L l (run.end left run.count)
    pub at_right : EndIs L r (run.end right run.count)

  -- what happened is a run of the rules, and what agreement says holds of it
  pub record Agreed {F : Type 0} (run : Run L A) (es : List Happening) (l r : End F) : Type 0 where
    pub longer : Run L A
    pub extends : Extends run es longer
    pub stands : Stands longer l r
    pub offers : OffersOf L A longer
    pub meets : Meets L A longer
    pub sums : SumsOf L A

-- for every lawful field, every accepted setting and every run that left the ends l and r
abbrev pub Converses : {F : Type 0} → Meaning → End F → End F → List Line → List Event → End F → End F → Type 0
Converses M l r script log l' r' =
    (L : Lawful M) (A : Accepted L) (run : Run L A) → Stands L A run l r → Agreed L A run (events script log) l' r'

-- the same for ends that are newly loaded with the setting A: the log is then a whole run, with nothing before it
abbrev pub ConversesNew : {F : Type 0} → Meaning → End F → End F → List Line → List Event → End F → End F → Type 0
ConversesNew M l r script log l' r' =
    (L : Lawful M) (A : Accepted L) → EndIs L l (ready A) → EndIs L r (ready A)
    → (first : Run L A) × (first.count ≡ 0) × Agreed L A first (events script log) l' r'
