-- Offers written into a buffer.
use Rattle.std.proofs.Common.{ℕ, List, length, Ok, Err, Result, refl, inl}
use Rattle.field.specs.Meaning.{Meaning, Lawful}
use Rattle.field.specs.declared.refusal.Refusal.{Refusal}
use Rattle.rules.specs.Questions.{answer_of}
use Rattle.rules.specs.Ends.{State, blank, ready, opened, keyed, tell, key, offered, offered_key, After}
use Rattle.packet.specs.Writing.{Written, WritesOffer}
use Rattle.end.specs.declared.end.End.{End}
use Rattle.end.specs.Modes.{InOpenOrKeyed, InKeyed}
use Rattle.end.specs.Values.{EndIs}
use Rattle.end.specs.Results.{written_to, Kept, Tells, Keys}
use Rattle.end.proofs.Standing.{tells_when, keys_when}

pub kept : {x before after : List ℕ} (r : Result ℕ Refusal) → Written x before after r → Kept before after r
kept (Ok n) w = w.wrote.2
kept (Err e) w = w.kept

module _ {F : Type 0} {M : Meaning} (e : End F) (before after : List ℕ) (r : Result ℕ Refusal) where
  module _ (L : Lawful M) where
    after_tell : (s : State L) (r : Result ℕ Refusal) → Written (offered L s) before after r
        → After L s (tell (length before)) (answer_of r) (written_to after r) s
    after_tell s (Ok n) w = (w.wrote.1, refl)
    after_tell s (Err f) w = (refl, refl)

    after_key : (s : State L) (r : Result ℕ Refusal) → Written (offered_key L s) before after r
        → After L s (key (length before)) (answer_of r) (written_to after r) s
    after_key s (Ok n) w = (w.wrote.1, refl)
    after_key s (Err f) w = (refl, refl)

    tell_writes : (s : State L) → EndIs L e s → InOpenOrKeyed e.mode → WritesOffer e.ideal.q e.ideal.p before after r
        → Written (offered L s) before after r
    tell_writes blank is ok w = absurd ((tells_when L e blank is).0 ok)
    tell_writes (ready A) is ok w = absurd ((tells_when L e (ready A) is).0 ok)
    tell_writes (opened A a δ) is ok w = w M L a.Q a.P is.3.Q_is is.3.P_is
    tell_writes (keyed A a δ k) is ok w = w M L a.Q a.P is.3.Q_is is.3.P_is

    key_writes : (s : State L) → EndIs L e s → InKeyed e.mode → WritesOffer e.key.q e.key.p before after r
        → Written (offered_key L s) before after r
    key_writes blank is ok w = absurd ((keys_when L e blank is).0 ok)
    key_writes (ready A) is ok w = absurd ((keys_when L e (ready A) is).0 ok)
    key_writes (opened A a δ) is ok w = absurd ((keys_when L e (opened A a δ) is).0 ok)
    key_writes (keyed A a δ k) is ok w = w M L k.Q k.P is.5.Q_is is.5.P_is

  pub told : InOpenOrKeyed e.mode → WritesOffer e.ideal.q e.ideal.p before after r → Tells M e before after r
  told ok w L s is =
      let written = tell_writes L s is ok w in
      (s, record { answer = inl ((tells_when L e s is).0 ok, written.answers); after = after_tell L s r written }, is)

  pub handed : InKeyed e.mode → WritesOffer e.key.q e.key.p before after r → Keys M e before after r
  handed ok w L s is =
      let written = key_writes L s is ok w in
      (s, record { answer = inl ((keys_when L e s is).0 ok, written.answers); after = after_key L s r written }, is)
