-- The contracts of the polynomial record, in the words of the ring that the theory of ideals rests on.
use Rattle.std.proofs.Common.{◌≡◌, ℕ, ◌+◌, ◌-◌, ◌<◌, ◌≤◌, ◌≢◌, [], ◌∷◌, sym, ap, ◌∙◌, arith}
use Rattle.field.specs.Meaning.{Meaning, Lawful}
use Rattle.ring.proofs.Ring.{Divides}
use Rattle.ring.proofs.Quote.{quote, auto}
use Rattle.ring.proofs.Hypotheses.{by_hyp₂}
use Rattle.ring.proofs.Poly.{Polynomials}
use Rattle.ring.proofs.PolyModel.{poly_ring}
use Rattle.ring.proofs.Lengths.{⊗-cancel, len_pos}
use Rattle.ring.proofs.Euclid.{remainder_unique}
use Rattle.algebra.specs.Codes.{code, R, K}
use Rattle.poly.specs.Values.{size, at, Is}
use Rattle.poly.specs.Rules.{Zero, One, Sum, Difference, Product, Division, Common, Monic, TopOne}
use Rattle.poly.specs.declared.poly.Poly.{Poly}
use Rattle.ideal.specs.Parts.{Quotient}
use Rattle.poly.proofs.Bridge.{len_is, at_is, code_one, moved}

module _ {M : Meaning} (L : Lawful M) where
  infixl 60 ◌⊕◌
  infixl 70 ◌⊗◌
  infix 80 ⊖◌
  open K L use {r, len, coef}
  open (K L).r use {𝟘, 𝟙, ◌⊕◌, ⊖◌, ◌⊗◌}

  pub size_is : {a : Poly} {x : R L} → Is L a x → len x ≡ size a
  unfolding poly_ring
  size_is h = len_is L h

  pub zero_is : {a : Poly} → Zero a → Is L a 𝟘
  unfolding poly_ring Polynomials
  zero_is z = z M L

  pub one_is : {a : Poly} → One a → Is L a 𝟙
  unfolding poly_ring Polynomials
  one_is z = z M L

  pub sum_is : {a b c : Poly} {x y : R L} → Sum M a b c → Is L a x → Is L b y → Is L c (x ⊕ y)
  unfolding poly_ring Polynomials
  sum_is s h g = s L _ _ h g

  pub difference_is : {a b c : Poly} {x y : R L} → Difference M a b c → Is L a x → Is L b y → Is L c (x ⊕ ⊖ y)
  unfolding poly_ring Polynomials
  difference_is s h g = s L _ _ h g

  pub product_is : {a b c : Poly} {x y : R L} → Product M a b c → Is L a x → Is L b y → len x + len y ≤ 129 → Is L c (x ⊗ y)
  unfolding poly_ring Polynomials
  product_is {a} {b} s h g l = s L _ _ h g (let m = len_is L h in let n = len_is L g in omega arith)

  -- x = k·y + s, where s is shorter than y
  pub record Divided (x y : R L) (q p : Poly) : Type 0 where
    pub k : R L
    pub s : R L
    pub k_is : Is L q k
    pub s_is : Is L p s
    pub sums : x ≡ k ⊗ y ⊕ s
    pub short : len s < len y

  pub division_is : {a b q p : Poly} {x y : R L} → Division M a b q p → (0 < size b → size p < size b) → Is L a x → Is L b y → y ≢ 𝟘 → Divided x y q p
  unfolding poly_ring Polynomials
  division_is {b = b} {p = p} {y = y} d less h g n =
      let w = d L _ _ h g in
      let pos = len_pos (K L) y n in
      let e = size_is g in
      let f = size_is w.remainder_is in
      record {
        k = w.quotient;
        s = w.remainder;
        k_is = w.quotient_is;
        s_is = w.remainder_is;
        sums = w.sums;
        short = omega (arith, less (omega arith));
      }

  -- a division without remainder
  pub exact_is : {q p : Poly} {x y : R L} → Divided x y q p → Divides r y x → y ≢ 𝟘 → Quotient L x y q
  exact_is {x = x} {y = y} d (v, e) n =
      let pos = len_pos (K L) y n in
      let z : d.s ≡ 𝟘 = remainder_unique (K L) y d.k d.s v 𝟘 (sym d.sums ∙ e ∙ sym (r.⊕-zero (v ⊗ y))) d.short (omega (arith, (K L).len_zero)) in
      record { w = d.k; is = d.k_is; exact = d.sums ∙ ap (λ (t : R L). d.k ⊗ y ⊕ t) z ∙ r.⊕-zero (d.k ⊗ y) }

  -- the greatest common divisor, with its multipliers
  pub record Combined (x y : R L) (p q g : Poly) : Type 0 where
    pub u : R L
    pub v : R L
    pub d : R L
    pub u_is : Is L p u
    pub v_is : Is L q v
    pub d_is : Is L g d
    pub sums : d ≡ u ⊗ x ⊕ v ⊗ y
    pub left : Divides r d x
    pub right : Divides r d y

  pub common_is : {a b p q g : Poly} {x y : R L} → Common M a b p q g → Is L a x → Is L b y → Combined x y p q g
  unfolding poly_ring Polynomials
  common_is c h g =
      let w = c L _ _ h g in
      record { u = w.u; v = w.v; d = w.d; u_is = w.p_is; v_is = w.q_is; d_is = w.g_is; sums = w.sums; left = w.left; right = w.right }

  -- a multiple by a unit whose leading coefficient is 1
  pub record Scaled (x : R L) (a : Poly) : Type 0 where
    pub c : R L
    pub e : R L
    pub inverse : c ⊗ e ≡ 𝟙
    pub is : Is L a (c ⊗ x)
    pub monic : (n : ℕ) → len (c ⊗ x) ≡ n + 1 → coef (c ⊗ x) n ≡ (K L).k.𝟙

  top_is : {a : Poly} {x : R L} → Is L a x → TopOne a → (n : ℕ) → len x ≡ n + 1 → coef x n ≡ (K L).k.𝟙
  unfolding poly_ring
  top_is {a} {x} h t n e =
      let l = size_is h in
      let f : size a - 1 ≡ n = omega arith in
      sym (at_is L h n) ∙ ap (code L) (ap (at a) (sym f) ∙ t (omega arith)) ∙ code_one L

  -- the same multiple, before the unit is known to be one
  made_monic_lem : {a b : Poly} {x : R L} → Monic M a b → Is L a x → (y : R L) × Is L b y × Divides r x y × Divides r y x × TopOne b
  unfolding poly_ring Polynomials
  made_monic_lem {x = x} m h = let w = m L x h in (w.made, w.is, w.up, w.down, w.top)

  pub monic_is : {a b : Poly} {x : R L} → Monic M a b → Is L a x → x ≢ 𝟘 → Scaled x b
  monic_is {b = b} {x = x} m h n =
      let (y, is, (c, up), (e, down), top) = made_monic_lem m h in
      let i : Is L b (c ⊗ x) = moved L is up in
      record {
        c = c;
        e = e;
        inverse = ⊗-cancel (K L) x (c ⊗ e) 𝟙 n (by_hyp₂ r (⊖ 𝟙) down (⊖ e) up (auto r (x ∷ y ∷ c ∷ e ∷ []) (search quote depth 20) tt));
        is = i;
        monic = top_is i top;
      }
