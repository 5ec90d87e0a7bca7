-- Loading a setting: the questions of its packet, one table after the other.
use Rattle.std.proofs.Common.{ℕ, List, [], Ok, Err, Result, refl, inl}
use Rattle.field.specs.Meaning.{Meaning}
use Rattle.field.specs.Refusals.{refusal_number}
use Rattle.field.specs.declared.refusal.Refusal.{Refusal}
use Rattle.rules.specs.Questions.{Answers, accepted, refused}
use Rattle.rules.specs.Packets.{body, second}
use Rattle.rules.specs.Settings.{setting_asks, poly_of}
use Rattle.rules.specs.Ends.{ready, load}
use Rattle.rules.proofs.Answering.{accepted_then}
use Rattle.poly.specs.declared.poly.Poly.{Poly}
use Rattle.packet.specs.Contents.{setting_asked}
use Rattle.packet.specs.Polynomials.{Held}
use Rattle.ideal.specs.Results.{SettingMade}
use Rattle.ideal.specs.declared.setting.Setting.{Setting}
use Rattle.end.specs.declared.modes.Mode.{Mode}
use Rattle.end.specs.declared.modes.Mode.TheVariants.{Ready}
use Rattle.end.specs.declared.end.End.{End}
use Rattle.end.specs.Modes.{InBlankOrReady}
use Rattle.end.specs.Results.{Follows, SettingRead}
use Rattle.end.proofs.Standing.{loads_when, refuses}

-- the setting of a packet whose second body is the record D
pub setting_read : {M : Meaning} (x : List ℕ) (D : Poly) (r : Result Setting Refusal) → Answers (setting_asked M.size x) accepted → Held M (body x second) D
    → SettingMade M D r → SettingRead M x r
setting_read {M} x D (Ok t) asked held made L =
    let h = made L (poly_of L (body x second)) (held.is L) in
    (accepted_then (setting_asked M.size x) (setting_asks L (poly_of L (body x second))) accepted asked h.0, h.1)
setting_read {M} x D (Err f) asked held made L =
    accepted_then (setting_asked M.size x) (setting_asks L (poly_of L (body x second))) (refused (refusal_number f)) asked (made L (poly_of L (body x second)) (held.is L))

-- the end with another mode
abbrev pub with_mode : {F : Type 0} → End F → Mode → End F
with_mode e m = record { field = e.field; mode = m; ideal = e.ideal; distance = e.distance; key = e.key }

module _ {F : Type 0} {M : Meaning} (e : End F) (x : List ℕ) where
  pub load_refused : (f : Refusal) → InBlankOrReady e.mode → SettingRead M x (Err f) → Follows M e (load x) (refused (refusal_number f)) [] e
  load_refused f ok read = refuses e (load x) (refusal_number f) [] (λ L s is. (inl ((loads_when L e s is).0 ok, read L), refl))

  pub loaded : (t : Setting) → InBlankOrReady e.mode → SettingRead M x (Ok t) → Follows M e (load x) accepted [] (with_mode e (Ready t))
  loaded t ok read L s is =
      (ready (read L).1.0, record { answer = inl ((loads_when L e s is).0 ok, (read L).0); after = ((read L).1.0, (read L).1.1, refl, refl) }, (t, refl, (read L).1.2))
