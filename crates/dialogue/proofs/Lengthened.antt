-- A dialogue goes on by one call at a time.
use Rattle.std.proofs.Common.{◌≡◌, ℕ, ◌+◌, ◌<◌, ◌≢◌, List, [], ◌∷◌, ◌++◌, length, get_or, sym, refl, ap, ◌∙◌, subst, subst₂, append_assoc, append-nil, arith}
use native.Mathlib.Decide.{dec_lt}
use Rattle.std.proofs.lemmas.List.{get_or_append_left, get_or_push, length_push}
use Rattle.field.specs.Meaning.{Meaning, Lawful}
use Rattle.rules.specs.Settings.{Accepted}
use Rattle.rules.specs.Ends.{State, Does}
use Rattle.rules.specs.Runs.{left, right, Event as Happening, Run}
use Rattle.rules.proofs.Agreed.{agreement}
use Rattle.rules.proofs.Extending.{empty_run, longer_run, event_old, event_new, end_acted, end_rested}
use Rattle.end.specs.Values.{EndIs}
use Rattle.end.specs.declared.end.End.{End}
use Rattle.dialogue.specs.Talks.{Acts, event_of, events, Logs, Extends, Stands, Agreed, Converses, ConversesNew}
use Rattle.dialogue.specs.declared.script.Side.{Side}
use Rattle.dialogue.specs.declared.script.Side.TheVariants.{Left, Right}
use Rattle.dialogue.specs.declared.script.Order.{Order}
use Rattle.dialogue.specs.declared.script.Line.{Line}
use Rattle.dialogue.specs.declared.script.Event.{Event}

-- one line more, and what was logged for it
pub logs_more : (script : List Line) (log : List Event) (line : Line) (ev : Event)
    → Logs script log → ev.side ≡ line.side → Logs (script ++ line ∷ []) (log ++ ev ∷ [])
logs_more [] [] line ev h e = (e, tt)
logs_more [] (_ ∷ _) line ev h e = absurd h
logs_more (_ ∷ _) [] line ev h e = absurd h
logs_more (_ ∷ script) (_ ∷ log) line ev h e = (h.0, logs_more script log line ev h.1 e)

pub events_more : (script : List Line) (log : List Event) (line : Line) (ev : Event)
    → Logs script log → events (script ++ line ∷ []) (log ++ ev ∷ []) ≡ events script log ++ event_of line ev ∷ []
events_more [] [] line ev h = refl
events_more [] (_ ∷ _) line ev h = absurd h
events_more (_ ∷ _) [] line ev h = absurd h
events_more (l ∷ script) (e ∷ log) line ev h = ap (λ (z : List Happening). event_of l e ∷ z) (events_more script log line ev h.1)

apart : left ≢ right
apart e = let z : ◌≡◌ {A = ℕ} 0 1 = cc in omega arith

module _ {M : Meaning} (L : Lawful M) (A : Accepted L) where
  -- whatever agreement says, with what is known of the run
  pub agreed : {F : Type 0} (run : Run L A) (es : List Happening) (l r : End F) (longer : Run L A)
      → Extends L A run es longer → Stands L A longer l r → Agreed L A run es l r
  agreed run es l r longer x s = record {
    longer = longer;
    extends = x;
    stands = s;
    offers = (agreement M L A).a longer;
    meets = (agreement M L A).b longer;
    sums = (agreement M L A).c;
  }

  nothing : (run : Run L A) → Extends L A run [] run
  nothing run = record {
    count = omega arith;
    old = λ i h. refl;
    new = λ i d h. absurd (omega arith);
  }

  module _ (run : Run L A) (ev : Happening) (s : State L)
      (does : Does L (run.end ev.side run.count) ev.call ev.answer ev.written s) where
    one_more : (first : Run L A) (es : List Happening) → Extends L A first es run → Extends L A first (es ++ ev ∷ []) (longer_run L A run ev s does)
    one_more first es x = record {
      count = omega (arith, length_push es ev, x.count);
      old = λ i h. event_old L A run ev s does i (omega (arith, x.count)) ∙ x.old i h;
      new = λ i d h. go i d h (dec_lt i (length es));
    }
      where
        go : (i : ℕ) (d : Happening) → i < length (es ++ ev ∷ []) → Dec (i < length es)
            → (longer_run L A run ev s does).event (first.count + i) ≡ get_or (es ++ ev ∷ []) i d
        go i d h (yes g) = event_old L A run ev s does (first.count + i) (omega (arith, x.count)) ∙ x.new i d g ∙ sym (get_or_append_left es (ev ∷ []) d i g)
        go i d h (no n) = let z : run.count ≡ first.count + i = omega (arith, length_push es ev, x.count) in
            subst (λ (j : ℕ). (longer_run L A run ev s does).event j ≡ get_or (es ++ ev ∷ []) i d) z
            (event_new L A run ev s does ∙ sym (get_or_push es ev d i (omega (arith, length_push es ev))))

  -- the state that a line's call leaves, and both ends after it
  pub record Next {F : Type 0} (run : Run L A) (ev : Happening) (l r : End F) : Type 0 where
    pub state : State L
    pub does : Does L (run.end ev.side run.count) ev.call ev.answer ev.written state
    pub stands : Stands L A (longer_run L A run ev state does) l r

  next : {F : Type 0} (run : Run L A) (σ : Side) (o : Order) (ev : Event) (l r l' r' : End F) → Stands L A run l r → Acts M M σ o ev l r l' r'
      → Next run (event_of (record { side = σ; order = o }) ev) l' r'
  next run Left o ev l r l' r' st (p, same) = let (s, d, is) = p L (run.end left run.count) st.at_left in record {
    state = s;
    does = d;
    stands = record {
      at_left = subst (λ (z : State L). EndIs L l' z) (sym (end_acted L A run (event_of (record { side = Left; order = o }) ev) s d)) is;
      at_right = subst₂ (λ (e : End _) (z : State L). EndIs L e z) (sym same)
          (sym (end_rested L A run (event_of (record { side = Left; order = o }) ev) s d right apart)) st.at_right;
    };
  }
  next run Right o ev l r l' r' st (p, same) = let (s, d, is) = p L (run.end right run.count) st.at_right in record {
    state = s;
    does = d;
    stands = record {
      at_left = subst₂ (λ (e : End _) (z : State L). EndIs L e z) (sym same)
          (sym (end_rested L A run (event_of (record { side = Right; order = o }) ev) s d left (λ e. apart (sym e)))) st.at_left;
      at_right = subst (λ (z : State L). EndIs L r' z) (sym (end_acted L A run (event_of (record { side = Right; order = o }) ev) s d)) is;
    };
  }

-- nothing said yet
pub start : {F : Type 0} (M : Meaning) (l r : End F) → Converses M l r [] [] l r
start M l r L A run st = agreed L A run [] l r run (nothing L A run) st

-- one line more
pub again : {F : Type 0} (M : Meaning) (l₀ r₀ l r l' r' : End F) (script : List Line) (log : List Event) (line : Line) (ev : Event)
    → Logs script log → Acts M M line.side line.order ev l r l' r'
    → Converses M l₀ r₀ script log l r → Converses M l₀ r₀ (script ++ line ∷ []) (log ++ ev ∷ []) l' r'
again M l₀ r₀ l r l' r' script log line ev h acts sofar L A run st =
    let a = sofar L A run st in
    let n = next L A a.longer line.side line.order ev l r l' r' a.stands acts in
    subst (λ (es : List Happening). Agreed L A run es l' r') (sym (events_more script log line ev h))
    (agreed L A run (events script log ++ event_of line ev ∷ []) l' r' (longer_run L A a.longer (event_of line ev) n.state n.does)
    (one_more L A a.longer (event_of line ev) n.state n.does run (events script log) a.extends) n.stands)

-- how far a script has come: the lines done, their log, the ends now
pub record Sofar {F : Type 0} (meaning_of : F → Meaning) (l₀ r₀ l r : End F) (script rest : List Line) (log : List Event) : Type 0 where
  pub done : List Line
  pub whole : script ≡ done ++ rest
  pub logs : Logs done log
  pub over_left : l.field ≡ l₀.field
  pub over_right : r.field ≡ r₀.field
  pub agrees : meaning_of r₀.field ≡ meaning_of l₀.field → Converses (meaning_of l₀.field) l₀ r₀ done log l r

pub at_start : {F : Type 0} (meaning_of : F → Meaning) (l r : End F) (script : List Line) (log : List Event)
    → log ≡ [] → Sofar meaning_of l r l r script script log
at_start meaning_of l r script log e = subst (λ (z : List Event). Sofar meaning_of l r l r script script z) (sym e) (record {
  done = [];
  whole = refl;
  logs = tt;
  over_left = refl;
  over_right = refl;
  agrees = λ _. start (meaning_of l.field) l r;
})

pub goes_on : {F : Type 0} (meaning_of : F → Meaning) (l₀ r₀ l r l' r' : End F) (script rest rest' : List Line) (log log' : List Event)
    (line : Line) (ev : Event) → Sofar meaning_of l₀ r₀ l r script rest log → rest ≡ line ∷ rest' → log' ≡ log ++ ev ∷ [] → ev.side ≡ line.side
    → Acts (meaning_of l.field) (meaning_of r.field) line.side line.order ev l r l' r' → l'.field ≡ l.field → r'.field ≡ r.field
    → Sofar meaning_of l₀ r₀ l' r' script rest' log'
goes_on meaning_of l₀ r₀ l r l' r' script rest rest' log log' line ev so first pushed side acts over over' =
    subst (λ (z : List Event). Sofar meaning_of l₀ r₀ l' r' script rest' z) (sym pushed) (record {
      done = so.done ++ line ∷ [];
      whole = so.whole ∙ ap (λ (z : List Line). so.done ++ z) first ∙ sym (append_assoc so.done (line ∷ []) rest');
      logs = logs_more so.done log line ev so.logs side;
      over_left = over ∙ so.over_left;
      over_right = over' ∙ so.over_right;
      agrees = λ same. again (meaning_of l₀.field) l₀ r₀ l r l' r' so.done log line ev so.logs
          (subst₂ (λ (x y : Meaning). Acts x y line.side line.order ev l r l' r') (ap meaning_of so.over_left) (ap meaning_of so.over_right ∙ same) acts)
          (so.agrees same);
    })

-- nothing is left
module _ {F : Type 0} (meaning_of : F → Meaning) (l₀ r₀ l r : End F) (script rest : List Line) (log : List Event)
    (so : Sofar meaning_of l₀ r₀ l r script rest log) (none : rest ≡ []) where
  all_done : so.done ≡ script
  all_done = sym (so.whole ∙ ap (λ (z : List Line). so.done ++ z) none ∙ append-nil so.done)

  pub end_logs : Logs script log
  end_logs = subst (λ (z : List Line). Logs z log) all_done so.logs

  pub end_agrees : meaning_of r₀.field ≡ meaning_of l₀.field → Converses (meaning_of l₀.field) l₀ r₀ script log l r
  end_agrees same = subst (λ (z : List Line). Converses (meaning_of l₀.field) l₀ r₀ z log l r) all_done (so.agrees same)

-- the run in which nothing has happened yet leaves newly loaded ends
pub newly_loaded : {F : Type 0} (M : Meaning) (l r l' r' : End F) (script : List Line) (log : List Event)
    → Converses M l r script log l' r' → ConversesNew M l r script log l' r'
newly_loaded M l r l' r' script log c L A x y = (empty_run L A, refl, c L A (empty_run L A) (record { at_left = x; at_right = y }))
