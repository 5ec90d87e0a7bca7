-- (1): the only ideal in standard form whose Q is constant.
use Rattle.std.proofs.Common.{◌≡◌, ℕ, Bool, eqb, sym, ap, ◌∙◌, arith, eq-eqb, eqb-true}
use Rattle.field.specs.Meaning.{Meaning, Lawful}
use Rattle.ring.proofs.Ring.{one_divides}
use Rattle.ring.proofs.Poly.{Polynomials}
use Rattle.ring.proofs.PolyModel.{poly_ring}
use Rattle.ring.proofs.Lengths.{alive_one}
use Rattle.ring.proofs.Euclid.{Monic, monic_unique}
use Rattle.algebra.specs.Codes.{K}
use Rattle.algebra.specs.Ideals.{Standard}
use Rattle.algebra.proofs.Unique.{ideal_path}
use Rattle.rules.specs.Settings.{Accepted, setting, Ideals, unit_ideal}
use Rattle.poly.specs.Values.{size}
use Rattle.poly.specs.Rules.{Zero as ZeroPoly, One as OnePoly}
use Rattle.ideal.specs.Results.{One, IsOne}
use Rattle.ideal.specs.declared.ideal.Ideal.{Ideal}
use Rattle.ideal.proofs.Records.{size_is, zero_is, one_is}

pub one_made : {a : Ideal} → OnePoly a.q → ZeroPoly a.p → One a
one_made q p M L A = record { Q_is = one_is L q; P_is = zero_is L p }

module _ {M : Meaning} (L : Lawful M) where
  one_monic : Monic (K L) (K L).r.𝟙
  unfolding poly_ring Polynomials
  one_monic n e = ap ((K L).coef (K L).r.𝟙) (zero_of n (omega arith))
    where
      zero_of : (n : ℕ) → n ≡ 0 → n ≡ 0
      zero_of n z = z

  pub constant_one : (A : Accepted L) (x : Ideals L A) → Standard (K L) (setting L A) x → (K L).len x.Q ≡ 1 → x ≡ unit_ideal L A
  constant_one A x h e =
      let u = (K L).unit x.Q e in
      let s = h.small in
      ideal_path (K L) (setting L A) x (unit_ideal L A)
      (monic_unique (K L) x.Q (K L).r.𝟙 x.alive (alive_one (K L)) h.monic one_monic
      (u.0, sym u.1 ∙ (K L).r.⊗-comm x.Q u.0) (one_divides (K L).r x.Q))
      ((K L).zero_len x.P (omega arith))

pub one_tested : {a : Ideal} {r : Bool} → r ≡ eqb (size a.q) 1 → IsOne a r
one_tested {a} e M L A x h s = (
  (λ t. constant_one L A x s (size_is L h.Q_is ∙ eqb-true (size a.q) 1 (sym e ∙ t))),
  (λ p. e ∙ eq-eqb (size a.q) 1 (sym (size_is L h.Q_is) ∙ ap (λ (y : Ideals L A). (K L).len y.Q) p ∙ (K L).len_one)),
)
