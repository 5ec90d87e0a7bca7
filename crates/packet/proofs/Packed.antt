-- What the writer has written, by values, and read back.
use Rattle.std.proofs.Common.{◌≡◌, ℕ, ◌<◌, ◌≤◌, List, length, take, IfOk, Ok, Err, Result, sym, ap, ◌∙◌, subst, ap₂, arith}
use Rattle.field.specs.Meaning.{Meaning, Lawful}
use Rattle.field.specs.declared.refusal.Refusal.{Refusal}
use Rattle.algebra.specs.Codes.{R}
use Rattle.rules.specs.Questions.{Hold}
use Rattle.rules.specs.Packets.{number, four, body, first, second, Holds, packet, body_asks, spell}
use Rattle.rules.specs.Settings.{body_of, poly_of}
use Rattle.rules.proofs.Written.{number_four, packet_holds}
use Rattle.rules.proofs.Spelled.{body_holds, body_read}
use Rattle.poly.specs.Values.{Is}
use Rattle.poly.specs.declared.poly.Poly.{Poly}
use Rattle.packet.specs.Polynomials.{codes_down}
use Rattle.packet.specs.Writing.{Written, WritesSetting, WritesOffer, ReadAs, SettingBack, OfferBack}
use Rattle.packet.proofs.Records.{body_size, codes_value}

-- a record's body is at most 512 bytes long
pub short : (p : Poly) → length (spell (codes_down p)) ≤ 512
short p = let a = body_size p in let b = p.short in omega arith

-- a record's body is read back
pub back : {m : Meaning} (L : Lawful m) (p : Poly) (v : R L) (b : List ℕ) → b ≡ spell (codes_down p) → Is L p v → ReadAs L b v
back {m} L p v b e h =
    let f : body_of L v ≡ b = sym (e ∙ codes_value L p v h) in
    record { asked = subst (λ (x : List ℕ). Hold (body_asks m.size x)) f (body_holds L v); is = ap (poly_of L) (sym f) ∙ body_read L v }

module _ (q p : Poly) (before after : List ℕ) (r : Result ℕ Refusal)
    (w : Written (packet 3 4 (spell (codes_down q)) (spell (codes_down p))) before after r) where
  pub writes_offer : WritesOffer q p before after r
  writes_offer m L x y hx hy =
      subst (λ (z : List ℕ). Written z before after r) (ap₂ (packet 3 4) (codes_value L q x hx) (codes_value L p y hy)) w

pub offer_back : (q p : Poly) (x : List ℕ) → x ≡ packet 3 4 (spell (codes_down q)) (spell (codes_down p)) → OfferBack q p x
offer_back q p x e =
    let a = short q in
    let b = short p in
    let h : Holds 3 4 x (spell (codes_down q)) (spell (codes_down p)) =
    subst (λ (z : List ℕ). Holds 3 4 z (spell (codes_down q)) (spell (codes_down p))) (sym e) (packet_holds 3 4 (spell (codes_down q)) (spell (codes_down p)) (omega arith) (omega arith)) in
    record { holds = h; one = λ m L v i. back L q v (body x first) (sym h.one) i; other = λ m L v i. back L p v (body x second) (sym h.other) i }

pub offers_back : (q p : Poly) (before after : List ℕ) (r : Result ℕ Refusal) → Written (packet 3 4 (spell (codes_down q)) (spell (codes_down p))) before after r
    → IfOk r (λ n. OfferBack q p (take n after))
offers_back q p before after (Ok n) w = offer_back q p (take n after) w.wrote.1
offers_back q p before after (Err e) w = tt

module _ (m : Meaning) (d : Poly) (before after : List ℕ) (r : Result ℕ Refusal)
    (w : Written (packet 1 2 (four m.size) (spell (codes_down d))) before after r) where
  pub writes_setting : WritesSetting m d before after r
  writes_setting L x h = subst (λ (z : List ℕ). Written z before after r) (ap (packet 1 2 (four m.size)) (codes_value L d x h)) w

pub setting_back : (m : Meaning) (d : Poly) (x : List ℕ) → m.size < 4294967296 → x ≡ packet 1 2 (four m.size) (spell (codes_down d)) → SettingBack m d x
setting_back m d x s e =
    let b = short d in
    let h : Holds 1 2 x (four m.size) (spell (codes_down d)) =
    subst (λ (z : List ℕ). Holds 1 2 z (four m.size) (spell (codes_down d))) (sym e) (packet_holds 1 2 (four m.size) (spell (codes_down d)) (omega arith) (omega arith)) in
    record {
      holds = h;
      size = (sym (ap length h.one), sym (ap number h.one) ∙ number_four m.size s);
      value = λ L v i. back L d v (body x second) (sym h.other) i;
    }

pub settings_back : (m : Meaning) (d : Poly) (before after : List ℕ) (r : Result ℕ Refusal) → m.size < 4294967296
    → Written (packet 1 2 (four m.size) (spell (codes_down d))) before after r → IfOk r (λ n. SettingBack m d (take n after))
settings_back m d before after (Ok n) s w = setting_back m d (take n after) s w.wrote.1
settings_back m d before after (Err e) s w = tt
