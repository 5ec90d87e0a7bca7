-- Quotient and remainder, the monic form and the greatest common divisor are the only ones.
use Rattle.std.proofs.Common.{◌≡◌, ℕ, ◌+◌, ◌-◌, ◌<◌, ◌≢◌, [], ◌∷◌, sym, ap, ◌∙◌, subst, arith}
use Rattle.field.specs.Meaning.{Meaning, Lawful}
use Rattle.ring.proofs.Ring.{CommRing, ⊗-zero, sub_self→eq}
use Rattle.ring.proofs.Quote.{quote, auto}
use Rattle.ring.proofs.Hypotheses.{by_hyp₂}
use Rattle.ring.proofs.Field.{Field}
use Rattle.ring.proofs.Poly.{Poly as Polynomial, mul_p, zero_p, Polynomials, coef}
use Rattle.ring.proofs.Sizes.{len, len_pos, len_add, len_neg, len_mul, zero_poly?}
use Rattle.ring.proofs.Divide.{quo, rem, quo_rem, rem_len}
use Rattle.ring.proofs.Euclid.{monic_unique}
use Rattle.ring.proofs.PolyModel.{poly_ring}
use Rattle.algebra.specs.Codes.{code, codes, ring_c, R, K}
use Rattle.poly.specs.Signs.{◌⊕◌, ◌⊗◌, ⊖◌}
use Rattle.poly.specs.Values.{at, size, Is}
use Rattle.poly.specs.Rules.{Divided, Divides, TopOne, MadeMonic, Combined}
use Rattle.poly.specs.declared.poly.Poly.{Poly}
use Rattle.poly.proofs.Bridge.{at_is, len_is, code_one}
use Rattle.poly.proofs.Euclid.{multiple}

module _ {C : Type 0} {F : Field C} (y q q' r r' : Polynomial F) where
  pub one_division : q ⊗ y ⊕ r ≡ q' ⊗ y ⊕ r' → len F r < len F y → len F r' < len F y → (q ≡ q') × (r ≡ r')
  unfolding Polynomials
  one_division e h h' = (same, rest same)
    where
      K : CommRing (Polynomial F)
      K = Polynomials F

      both : (q ⊕ ⊖ q') ⊗ y ≡ r' ⊕ ⊖ r
      both = by_hyp₂ (Polynomials F) (Polynomials F).𝟙 e (Polynomials F).𝟘 e (auto (Polynomials F) (y ∷ q ∷ q' ∷ r ∷ r' ∷ []) (search quote depth 20) tt)

      go : Dec (q ⊕ ⊖ q' ≡ zero_p F) → q ⊕ ⊖ q' ≡ zero_p F
      go (yes z) = z
      go (no z) =
          let ny : y ≢ zero_p F = λ k. let l : len F y ≡ 0 = ap (len F) k in absurd (omega arith) in
          let l = len_mul F (q ⊕ ⊖ q') y z ny in
          let p = len_pos F (q ⊕ ⊖ q') z in
          let n = len_neg F r in
          let s = len_add F r' (⊖ r) (len F y - 1) (omega arith) (omega arith) in
          absurd (omega (arith, ap (len F) both))

      same : q ≡ q'
      same = sub_self→eq (Polynomials F) q q' (go (zero_poly? F (q ⊕ ⊖ q')))

      rest : q ≡ q' → r ≡ r'
      rest s = by_hyp₂ (Polynomials F) (Polynomials F).𝟙 e (⊖ y) s (auto (Polynomials F) (y ∷ q ∷ q' ∷ r ∷ r' ∷ []) (search quote depth 20) tt)

module _ {m : Meaning} (L : Lawful m) (x y : R L) (b q r : Poly) (hy : Is L b y) (less : 0 < size b → size r < size b) (d : Divided L x y q r) where
  pub remainder_less : y ≢ zero_p (codes L) → len (codes L) d.remainder < len (codes L) y
  remainder_less n =
      let p = len_pos (codes L) y n in
      let o = len_is L hy in
      omega (arith, less (omega arith), len_is L d.remainder_is)

  -- what is divided is what the algebra divides
  pub division : y ≢ zero_p (codes L) → (d.quotient ≡ quo (codes L) x y) × (d.remainder ≡ rem (codes L) x y)
  division n = one_division y d.quotient (quo (codes L) x y) d.remainder (rem (codes L) x y)
      (sym d.sums ∙ quo_rem (codes L) x y) (remainder_less n) (rem_len (codes L) x y n)

  -- any other quotient with a remainder that is shorter than the divisor is the same
  pub division_unique : (k s : R L) → x ≡ k ⊗ y ⊕ s → len (codes L) s < len (codes L) y → (d.quotient ≡ k) × (d.remainder ≡ s)
  division_unique k s e l = one_division y d.quotient k d.remainder s (sym d.sums ∙ e)
      (remainder_less (λ z. let o : len (codes L) y ≡ 0 = ap (len (codes L)) z in absurd (omega arith))) l

module _ {m : Meaning} (L : Lawful m) where
  -- what is a multiple of 0 is 0
  pub zero_multiple : (x : R L) → Divides L (zero_p (codes L)) x → x ≡ zero_p (codes L)
  unfolding Polynomials
  zero_multiple x d = d.1 ∙ ⊗-zero (Polynomials (codes L)) d.0

  -- multiples of one another with leading coefficient 1 are equal
  pub same_monic : (p q : Poly) (v w : R L) → Is L p v → Is L q w → TopOne p → TopOne q → Divides L v w → Divides L w v → v ≡ w
  unfolding poly_ring Polynomials
  same_monic p q v w hv hw tp tq d e = go (zero_poly? (codes L) v) (zero_poly? (codes L) w)
    where
      monic : (a : Poly) (z : R L) → Is L a z → TopOne a → (n : ℕ) → len (codes L) z ≡ n + 1 → coef (codes L) z n ≡ (ring_c L).𝟙
      monic a z h t n l =
          let o = len_is L h in
          let pos : 0 < size a = omega arith in
          sym (at_is L h n) ∙ ap (λ (k : ℕ). code L (at a k)) (omega arith) ∙ ap (code L) (t pos) ∙ code_one L

      go : Dec (v ≡ zero_p (codes L)) → Dec (w ≡ zero_p (codes L)) → v ≡ w
      go (yes z) _ = z ∙ sym (zero_multiple w (subst (λ (t : R L). Divides L t w) z d))
      go (no z) (yes n) = zero_multiple v (subst (λ (t : R L). Divides L t v) n e) ∙ sym n
      go (no z) (no n) = monic_unique (K L) v w z n (monic p v hv tp) (monic q w hw tq) d e

  pub monic_form_unique : {x : R L} {r s : Poly} (a : MadeMonic L x r) (b : MadeMonic L x s) → a.made ≡ b.made
  unfolding Polynomials
  monic_form_unique {x} {r} {s} a b = same_monic r s a.made b.made a.is b.is a.top b.top
      (through a.made x b.made b.up a.down) (through b.made x a.made a.up b.down)
    where
      through : (f g h : R L) → Divides L g h → Divides L f g → Divides L f h
      through f g h e d = (mul_p (codes L) e.0 d.0, multiple (Polynomials (codes L)) h g f e.0 d.0 e.1 d.1)

  pub gcd_unique : {x y : R L} {p q g p' q' g' : Poly} (a : Combined L x y p q g) (b : Combined L x y p' q' g') → a.d ≡ b.d
  gcd_unique {x} {y} {p} {q} {g} {p'} {q'} {g'} a b = same_monic g g' a.d b.d a.g_is b.g_is a.top b.top
      (b.greatest a.d a.left a.right) (a.greatest b.d b.left b.right)

  -- the monic form of 0, and the greatest common divisor of 0 and 0
  pub monic_zero : {r : Poly} (a : MadeMonic L (zero_p (codes L)) r) → a.made ≡ zero_p (codes L)
  monic_zero a = zero_multiple a.made a.up

  pub gcd_zero : {p q g : Poly} (a : Combined L (zero_p (codes L)) (zero_p (codes L)) p q g) → a.d ≡ zero_p (codes L)
  unfolding Polynomials
  gcd_zero a =
      let z : Divides L (zero_p (codes L)) (zero_p (codes L)) = (zero_p (codes L), sym (⊗-zero (Polynomials (codes L)) (zero_p (codes L)))) in
      zero_multiple a.d (a.greatest (zero_p (codes L)) z z)
