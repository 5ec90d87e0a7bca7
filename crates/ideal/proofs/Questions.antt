-- The questions put to a setting and to an ideal, answered from the records.
use Rattle.std.proofs.Common.{◌≡◌, ℕ, ◌-◌, ◌/◌, ◌<◌, ◌≤◌, Bool, false, ◌≢◌, Decides, sym, refl, ap, ◌∙◌, subst, true≢false, arith}
use Rattle.field.specs.Meaning.{Meaning, Lawful}
use Rattle.ring.proofs.Ring.{Divides}
use Rattle.ring.proofs.Poly.{Polynomials}
use Rattle.ring.proofs.PolyModel.{poly_ring}
use Rattle.ring.proofs.Lengths.{empty, pos_len}
use Rattle.ring.proofs.Euclid.{common_len, remainder_unique}
use Rattle.algebra.specs.Codes.{code, one_low, R, K}
use Rattle.algebra.specs.Ideals.{Standard}
use Rattle.rules.specs.Questions.{Answers, accepted}
use Rattle.rules.specs.Settings.{EvenDegree, Monic, Coprime, Accepted, setting, Ideals}
use Rattle.rules.specs.Ends.{ideal_asks}
use Rattle.rules.proofs.Answering.{hold_answers}
use Rattle.poly.specs.Values.{at, size, Is}
use Rattle.poly.specs.Rules.{Combined, Divided}
use Rattle.poly.specs.declared.poly.Poly.{Poly}
use Rattle.poly.proofs.Bridge.{at_is, code_one, code_inj}
use Rattle.poly.proofs.Monics.{is_one}
use Rattle.ideal.specs.Degrees.{OddLength}
use Rattle.ideal.specs.Values.{IdealIs}
use Rattle.ideal.specs.declared.ideal.Ideal.{Ideal}
use Rattle.ideal.proofs.Records.{size_is}

-- the answer no of a test
pub refuted : {b : Bool} {P : Type 0} → Decides b P → b ≡ false → ¬ P
refuted d e h = true≢false (sym (d.1 h) ∙ e)

module _ {M : Meaning} (L : Lawful M) where
  module _ {p : Poly} {x : R L} (h : Is L p x) where
    pub even_yes : OddLength (size p) → EvenDegree L x
    even_yes (odd, low, high) = (size p / 2, omega (arith, size_is L h), omega arith, omega arith)

    pub even_no : ¬ (OddLength (size p)) → ¬ (EvenDegree L x)
    even_no unlike (m, e, low, high) = unlike (omega (arith, size_is L h), omega (arith, size_is L h), omega (arith, size_is L h))

    pub monic_yes : (0 < size p) × (at p (size p - 1) ≡ 1) → Monic L x
    unfolding poly_ring
    monic_yes (pos, one) = (size p - 1, omega (arith, size_is L h), sym (at_is L h (size p - 1)) ∙ ap (code L) one ∙ code_one L)

    pub monic_no : ¬ ((0 < size p) × (at p (size p - 1) ≡ 1)) → ¬ (Monic L x)
    unfolding poly_ring
    monic_no unlike (n, e, one) =
        let z : size p - 1 ≡ n = omega (arith, size_is L h) in
        unlike (
          omega (arith, size_is L h),
          code_inj L (at p (size p - 1)) 1 (h.low (size p - 1)) (one_low L)
              (at_is L h (size p - 1) ∙ ap ((K L).coef x) z ∙ one ∙ sym (code_one L)),
        )

  -- one greatest common divisor tells of all common divisors
  module _ {x y : R L} {u v g : Poly} (c : Combined L x y u v g) where
    pub coprime_yes : size g ≡ 1 → Coprime L x y
    unfolding poly_ring Polynomials
    coprime_yes l w = common_len (K L) x y c.u c.v w (sym c.sums ∙ is_one L g c.d c.g_is l c.top)

    pub coprime_no : size g ≢ 1 → ¬ (Coprime L x y)
    unfolding poly_ring Polynomials
    coprime_no l h = l (sym (size_is L c.g_is) ∙ h c.d c.left c.right)

  module _ {x y : R L} {q r : Poly} (d : Divided L x y q r) where
    pub divides_yes : size r ≡ 0 → Divides (K L).r y x
    unfolding poly_ring Polynomials
    divides_yes l = (
      d.quotient,
      d.sums ∙ ap ((K L).r.◌⊕◌ ((K L).r.◌⊗◌ d.quotient y)) ((K L).zero_len d.remainder (size_is L d.remainder_is ∙ l))
          ∙ (K L).r.⊕-zero ((K L).r.◌⊗◌ d.quotient y),
    )

    pub divides_no : {b : Poly} → Is L b y → size r < size b → size r ≢ 0 → ¬ (Divides (K L).r y x)
    unfolding poly_ring Polynomials
    divides_no h less l (w, e) = l (sym (size_is L d.remainder_is) ∙ empty (K L) d.remainder
        (remainder_unique (K L) y d.quotient d.remainder w (K L).r.𝟘 (sym d.sums ∙ e ∙ sym ((K L).r.⊕-zero ((K L).r.◌⊗◌ w y)))
        (omega (arith, size_is L h, size_is L d.remainder_is)) (omega (arith, size_is L h, (K L).len_zero))))

-- (Q, P) with four times the answer yes
module _ {M : Meaning} (L : Lawful M) (A : Accepted L) (x y : R L) (fits : (1 ≤ (K L).len x) × ((K L).len x ≤ A.m)) (monic : Monic L x) (small : (K L).len y < (K L).len x)
    (exact : Divides (K L).r x ((K L).r.◌⊕◌ A.D ((K L).r.⊖◌ ((K L).r.◌⊗◌ y y)))) where
  unfoldable made : Ideals L A
  made = record { Q = x; P = y; alive = pos_len (K L) x fits.0; exact = exact }

  pub ideal_made : (a : Ideal) → Is L a.q x → Is L a.p y
      → Answers (ideal_asks L A x y) accepted × ((b : Ideals L A) × (b.Q ≡ x) × (b.P ≡ y) × Standard (K L) (setting L A) b × IdealIs L A a b)
  unfolding made
  ideal_made a Q_is P_is = (
    hold_answers (ideal_asks L A x y) (fits, (monic, (small, (exact, tt)))),
    (
      made,
      refl,
      refl,
      record {
        small = small;
        monic = λ n e. (let (k, l, one) = monic in let z : k ≡ n = omega arith in subst (λ (j : ℕ). (K L).coef x j ≡ (K L).k.𝟙) z one);
      },
      record { Q_is = Q_is; P_is = P_is },
    ),
  )
