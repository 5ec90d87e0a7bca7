-- The mode of an end and the state that it is in.
use Rattle.std.proofs.Common.{◌≡◌, ℕ, List, sym, refl, ap, ◌∙◌, subst}
use Rattle.field.specs.Meaning.{Meaning, Lawful}
use Rattle.rules.specs.Questions.{Answers, refused}
use Rattle.rules.specs.Settings.{Accepted, Ideals}
use Rattle.rules.specs.Ends.{State, blank, ready, opened, keyed, Call, BlankOrReady, Ready as ReadyNow, Open as OpenNow, Keyed as KeyedNow, OpenOrKeyed, questions, wiped, closed}
use Rattle.rules.specs.Places.{Loaded}
use Rattle.ideal.specs.Values.{SettingIs}
use Rattle.ideal.specs.declared.setting.Setting.{Setting}
use Rattle.end.specs.declared.modes.Mode.{Mode}
use Rattle.end.specs.declared.modes.Mode.TheVariants.{Blank, Ready, Open, Keyed}
use Rattle.end.specs.declared.end.End.{End}
use Rattle.end.specs.Values.{EndIs}
use Rattle.end.specs.Modes.{InBlankOrReady, InReady, InOpen, InKeyed, InOpenOrKeyed, InLoaded, Holds, closed_mode}
use Rattle.end.specs.Results.{Follows, Closes}
use Rattle.end.specs.Places.{Under}

module _ {F : Type 0} {M : Meaning} (L : Lawful M) (e : End F) where
  -- what holds of a mode and a state of each kind holds of an end's mode and its state
  by_mode : (P : Mode → State L → Type 1) → P Blank blank → ((t : Setting) (A : Accepted L) → P (Ready t) (ready A))
      → ((t : Setting) (A : Accepted L) (a : Ideals L A) (δ : ℕ) → P (Open t) (opened A a δ))
      → ((t : Setting) (A : Accepted L) (a : Ideals L A) (δ : ℕ) (k : Ideals L A) → P (Keyed t) (keyed A a δ k))
      → (s : State L) → EndIs L e s → P e.mode s
  by_mode P b r o k blank h = subst (λ (m : Mode). P m blank) (sym h) b
  by_mode P b r o k (ready A) h = subst (λ (m : Mode). P m (ready A)) (sym h.1) (r h.0 A)
  by_mode P b r o k (opened A a δ) h = subst (λ (m : Mode). P m (opened A a δ)) (sym h.1) (o h.0 A a δ)
  by_mode P b r o k (keyed A a δ x) h = subst (λ (m : Mode). P m (keyed A a δ x)) (sym h.1) (k h.0 A a δ x)

  -- a question to the mode and one to the state are the same, if they are so for each kind
  same : (P : Mode → Type 0) (Q : State L → Type 0) → P Blank ≡ Q blank → ((t : Setting) (A : Accepted L) → P (Ready t) ≡ Q (ready A))
      → ((t : Setting) (A : Accepted L) (a : Ideals L A) (δ : ℕ) → P (Open t) ≡ Q (opened A a δ))
      → ((t : Setting) (A : Accepted L) (a : Ideals L A) (δ : ℕ) (k : Ideals L A) → P (Keyed t) ≡ Q (keyed A a δ k))
      → (s : State L) → EndIs L e s → (P e.mode → Q s) × (Q s → P e.mode)
  same P Q b r o k s h =
      let p = by_mode (λ m s. P m ≡ Q s) b r o k s h in
      ((λ x. subst (λ (X : Type 0). X) p x), (λ x. subst (λ (X : Type 0). X) (sym p) x))

  pub loads_when : (s : State L) → EndIs L e s → (InBlankOrReady e.mode → BlankOrReady L s) × (BlankOrReady L s → InBlankOrReady e.mode)
  loads_when = same InBlankOrReady (BlankOrReady L) refl (λ t A. refl) (λ t A a δ. refl) (λ t A a δ k. refl)

  pub opens_when : (s : State L) → EndIs L e s → (InReady e.mode → ReadyNow L s) × (ReadyNow L s → InReady e.mode)
  opens_when = same InReady (ReadyNow L) refl (λ t A. refl) (λ t A a δ. refl) (λ t A a δ k. refl)

  pub tells_when : (s : State L) → EndIs L e s → (InOpenOrKeyed e.mode → OpenOrKeyed L s) × (OpenOrKeyed L s → InOpenOrKeyed e.mode)
  tells_when = same InOpenOrKeyed (OpenOrKeyed L) refl (λ t A. refl) (λ t A a δ. refl) (λ t A a δ k. refl)

  pub takes_when : (s : State L) → EndIs L e s → (InOpen e.mode → OpenNow L s) × (OpenNow L s → InOpen e.mode)
  takes_when = same InOpen (OpenNow L) refl (λ t A. refl) (λ t A a δ. refl) (λ t A a δ k. refl)

  pub keys_when : (s : State L) → EndIs L e s → (InKeyed e.mode → KeyedNow L s) × (KeyedNow L s → InKeyed e.mode)
  keys_when = same InKeyed (KeyedNow L) refl (λ t A. refl) (λ t A a δ. refl) (λ t A a δ k. refl)

  pub finds_when : (s : State L) → EndIs L e s → (InLoaded e.mode → Loaded L s) × (Loaded L s → InLoaded e.mode)
  finds_when = same InLoaded (Loaded L) refl (λ t A. refl) (λ t A a δ. refl) (λ t A a δ k. refl)

  -- the setting that the mode holds is the state's
  pub setting_holds : (t : Setting) (s : State L) → EndIs L e s → Holds e.mode t → Under L s (λ A. SettingIs L A t)
  setting_holds t blank is h = subst (λ (m : Mode). Holds m t) is h
  setting_holds t (ready A) is h = subst (SettingIs L A) (sym (subst (λ (m : Mode). Holds m t) is.1 h)) is.2
  setting_holds t (opened A a δ) is h = subst (SettingIs L A) (sym (subst (λ (m : Mode). Holds m t) is.1 h)) is.2
  setting_holds t (keyed A a δ k) is h = subst (SettingIs L A) (sym (subst (λ (m : Mode). Holds m t) is.1 h)) is.2

-- what holds of every open state holds of the state of an open end
pub by_open : {F : Type 0} {M : Meaning} (e : End F) → InOpen e.mode → (P : (L : Lawful M) → State L → Type 0)
    → ((L : Lawful M) (A : Accepted L) (a : Ideals L A) (δ : ℕ) → EndIs L e (opened A a δ) → P L (opened A a δ)) → (L : Lawful M) (s : State L) → EndIs L e s → P L s
by_open e ok P f L blank is = absurd ((takes_when L e blank is).0 ok)
by_open e ok P f L (ready A) is = absurd ((takes_when L e (ready A) is).0 ok)
by_open e ok P f L (opened A a δ) is = f L A a δ is
by_open e ok P f L (keyed A a δ k) is = absurd ((takes_when L e (keyed A a δ k) is).0 ok)

-- a call that is refused leaves the end in its state
pub refuses : {F : Type 0} {M : Meaning} (e : End F) (c : Call) (n : ℕ) (w : List ℕ)
    → ((L : Lawful M) (s : State L) → EndIs L e s → Answers (questions L s c) (refused n) × (w ≡ wiped L c)) → Follows M e c (refused n) w e
refuses e c n w h L s is = (s, record { answer = (h L s is).0; after = ((h L s is).1, refl) }, is)

-- an end with the mode that close leaves is the end that close leaves
closed_is : {F : Type 0} {M : Meaning} (L : Lawful M) (before after : End F) → after.mode ≡ closed_mode before.mode → (s : State L) → EndIs L before s
    → EndIs L after (closed L s)
closed_is L before after e blank h = e ∙ ap closed_mode h
closed_is L before after e (ready A) h = (h.0, e ∙ ap closed_mode h.1, h.2)
closed_is L before after e (opened A a δ) h = (h.0, e ∙ ap closed_mode h.1, h.2)
closed_is L before after e (keyed A a δ k) h = (h.0, e ∙ ap closed_mode h.1, h.2)

pub closes : {F : Type 0} {M : Meaning} (before after : End F) → after.mode ≡ closed_mode before.mode → Closes M before after
closes before after e L s is = (closed L s, record { answer = refl; after = (refl, refl) }, closed_is L before after e s is)
