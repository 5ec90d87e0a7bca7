-- The field of codes of a lawful meaning: the numbers below its size.
-- A field carries its laws, so the lemmas here are parts of `codes`; specs/ cannot cite this crate's proofs/.
use Rattle.std.proofs.Math.Path.{◌≡◌, ap}
use Rattle.std.specs.Prelude.{refl, ◌≢◌, ℕ, ◌<◌}
use mathlib.Core.HLevel.{is_prop→PathP}
use Rattle.std.proofs.Math.Bridge.{le_prop}
use Rattle.std.proofs.Math.Decide.{ℕ_discrete, dec_lt}
use Rattle.std.proofs.Math.Nat.{lt_trans, lt-suc_self, pos_of_ne-zero, suc-ne-zero, zero-lt-suc}
use Rattle.field.specs.Meaning.{Meaning, Lawful}
use Rattle.ring.proofs.Ring.{CommRing}
use Rattle.ring.proofs.Field.{Field, inv_d, inv_d_is}
use Rattle.ring.proofs.Poly.{Poly}
use Rattle.ring.proofs.PolyRing.{PolyRing}
use Rattle.ring.proofs.PolyModel.{poly_ring}

-- a number below the size
pub record Code (m : Meaning) : Type 0 where
  pub num : ℕ
  pub low : num < m.size

pub code_ext : {m : Meaning} (a b : Code m) → a.num ≡ b.num → a ≡ b
code_ext {m} a b e = λ i. record {
  num = e i;
  low = is_prop→PathP (λ j. e j < m.size) (λ j. le_prop) a.low b.low i;
}

module _ {m : Meaning} (L : Lawful m) where
  pub zero_low : 0 < m.size
  zero_low = lt_trans (zero-lt-suc 1) L.low

  abbrev pub code_d : (n : ℕ) → Dec (n < m.size) → Code m
  code_d n (yes h) = record { num = n; low = h }
  code_d n (no h) = record { num = 0; low = zero_low }

  -- a number read as a code: itself where it is one, else 0
  unfoldable pub code : ℕ → Code m
  code n = code_d n (dec_lt n m.size)

  pub num_code_d : (n : ℕ) (d : Dec (n < m.size)) → n < m.size → (code_d n d).num ≡ n
  num_code_d n (yes h) l = refl
  num_code_d n (no h) l = absurd (h l)

  pub num_code : (n : ℕ) → n < m.size → (code n).num ≡ n
  unfolding code
  num_code n l = num_code_d n (dec_lt n m.size) l

  pub one_low : 1 < m.size
  one_low = lt_trans (lt-suc_self 1) L.low

  unfoldable pub ring_c : CommRing (Code m)
  ring_c = record {
    𝟘 = record { num = 0; low = zero_low };
    𝟙 = record { num = 1; low = one_low };
    ◌⊕◌ = λ a b. record { num = m.sum a.num b.num; low = L.sum_closed a.num b.num a.low b.low };
    ⊖◌ = λ a. record { num = m.opposite a.num; low = L.opposite_closed a.num a.low };
    ◌⊗◌ = λ a b. record { num = m.product a.num b.num; low = L.product_closed a.num b.num a.low b.low };
    ⊕-assoc = λ a b c. code_ext _ _ (L.sum_assoc a.num b.num c.num a.low b.low c.low);
    ⊕-comm = λ a b. code_ext _ _ (L.sum_comm a.num b.num a.low b.low);
    ⊕-zero = λ a. code_ext _ _ (L.sum_zero a.num a.low);
    ⊕-neg = λ a. code_ext _ _ (L.sum_opposite a.num a.low);
    ⊗-assoc = λ a b c. code_ext _ _ (L.product_assoc a.num b.num c.num a.low b.low c.low);
    ⊗-comm = λ a b. code_ext _ _ (L.product_comm a.num b.num a.low b.low);
    ⊗-one = λ a. code_ext _ _ (L.product_one a.num a.low);
    ⊗-dist = λ a b c. code_ext _ _ (L.distributes a.num b.num c.num a.low b.low c.low);
  }

  abbrev pub zero_d : (a : Code m) → Dec (a.num ≡ 0) → Dec (a ≡ record { num = 0; low = zero_low })
  zero_d a (yes e) = yes (code_ext a (record { num = 0; low = zero_low }) e)
  zero_d a (no h) = no (λ e. h (ap (λ (c : Code m). c.num) e))

  unfoldable pub zero_c? : (a : Code m) → Dec (a ≡ ring_c.𝟘)
  unfolding ring_c
  zero_c? a = zero_d a (ℕ_discrete a.num 0)

  pub inverse_c : (a : Code m) → a ≢ ring_c.𝟘 → (b : Code m) × (ring_c.◌⊗◌ a b ≡ ring_c.𝟙)
  unfolding ring_c
  inverse_c a h =
      let n : a.num ≢ 0 = λ e. h (code_ext _ _ e) in
      let t = L.inverse_there a.num (pos_of_ne-zero n) a.low in
      (record { num = t.0; low = t.2 }, code_ext _ _ t.3)

  pub one_c : ring_c.𝟙 ≢ ring_c.𝟘
  unfolding ring_c
  one_c e = suc-ne-zero 0 (ap (λ (c : Code m). c.num) e)

  pub two_c : ring_c.◌⊕◌ ring_c.𝟙 ring_c.𝟙 ≢ ring_c.𝟘
  unfolding ring_c
  two_c e = L.odd (ap (λ (c : Code m). c.num) e)

  unfoldable pub inv_c : Code m → Code m
  inv_c a = inv_d ring_c zero_c? inverse_c a (zero_c? a)

  pub inv_c_is : (a : Code m) → a ≢ ring_c.𝟘 → ring_c.◌⊗◌ a (inv_c a) ≡ ring_c.𝟙
  unfolding inv_c
  inv_c_is a h = inv_d_is ring_c zero_c? inverse_c a (zero_c? a) h

  abbrev pub codes : Field (Code m)
  codes = record { ring = ring_c; zero? = zero_c?; inv = inv_c; ⊗-inv = inv_c_is; one = one_c; two = two_c }

  -- the polynomials over the codes
  abbrev pub R : Type 0
  R = Poly codes

  -- their ring, with lengths, division and derivative
  abbrev pub K : PolyRing (Code m) R
  K = poly_ring codes
