-- Polynomials over a field: trimmed lists of coefficients. They are a commutative ring, since their sequences are.
use mathlib.Core.Path.{◌≡◌, refl, ◌∙◌, ap, fun_ext}
use mathlib.Core.HLevel.{is_prop→PathP}
use mathlib.Core.List.{List, [], ◌∷◌}
use Prim.Native.Nat.{ℕ, zero, suc}
use Rattle.ring.proofs.Ring.{CommRing}
use Rattle.ring.proofs.Field.{Field}
use Rattle.ring.proofs.Series.{conv, unit, Series}
use Rattle.ring.proofs.Coeffs.{seq, add_l, neg_l, mul_l, seq_add, seq_neg, seq_mul, Trim, trim_prop, trim_ext, norm, trim_norm, seq_norm}

pub record Poly {C : Type 0} (F : Field C) : Type 0 where
  pub list : List C
  pub trim : Trim F.ring list

module _ {C : Type 0} (F : Field C) where
  infixl 60 ◌⊕◌
  infixl 70 ◌⊗◌
  infix 80 ⊖◌
  open F.ring use {𝟘, 𝟙, ◌⊕◌, ⊖◌, ◌⊗◌}

  abbrev pub coef : Poly F → ℕ → C
  coef p = seq F.ring p.list

  abbrev pub poly : List C → Poly F
  poly l = record { list = norm F.ring F.zero? l; trim = trim_norm F.ring F.zero? l }

  pub coef_poly : (l : List C) (n : ℕ) → coef (poly l) n ≡ seq F.ring l n
  coef_poly l n = seq_norm F.ring F.zero? l n

  pub list_ext : (p q : Poly F) → p.list ≡ q.list → p ≡ q
  list_ext p q e = λ i. record {
    list = e i;
    trim = is_prop→PathP (λ j. Trim F.ring (e j)) (λ j. trim_prop F.ring (e j)) p.trim q.trim i;
  }

  pub ext : (p q : Poly F) → ((n : ℕ) → coef p n ≡ coef q n) → p ≡ q
  ext p q h = list_ext p q (trim_ext F.ring p.list q.list p.trim q.trim h)

  unfoldable pub add_p : Poly F → Poly F → Poly F
  add_p p q = poly (add_l F.ring p.list q.list)

  unfoldable pub neg_p : Poly F → Poly F
  neg_p p = poly (neg_l F.ring p.list)

  unfoldable pub mul_p : Poly F → Poly F → Poly F
  mul_p p q = poly (mul_l F.ring p.list q.list)

  abbrev pub zero_p : Poly F
  zero_p = record { list = []; trim = tt }

  abbrev pub one_p : Poly F
  one_p = record { list = 𝟙 ∷ []; trim = F.one }

  pub coef_add : (p q : Poly F) (n : ℕ) → coef (add_p p q) n ≡ coef p n ⊕ coef q n
  unfolding add_p
  coef_add p q n = coef_poly (add_l F.ring p.list q.list) n ∙ seq_add F.ring p.list q.list n

  pub coef_neg : (p : Poly F) (n : ℕ) → coef (neg_p p) n ≡ ⊖ coef p n
  unfolding neg_p
  coef_neg p n = coef_poly (neg_l F.ring p.list) n ∙ seq_neg F.ring p.list n

  pub coef_conv : (p q : Poly F) (n : ℕ) → coef (mul_p p q) n ≡ conv F.ring (coef p) (coef q) n
  unfolding mul_p
  coef_conv p q n = coef_poly (mul_l F.ring p.list q.list) n ∙ seq_mul F.ring p.list q.list n

  pub coef_one : (n : ℕ) → coef one_p n ≡ unit F.ring n
  unfolding unit
  coef_one zero = refl
  coef_one (suc n) = refl

  -- the same as equations of series: coef is an injective map of rings
  infixl 60 ◌+s◌
  infixl 70 ◌*s◌
  open Series F.ring use {◌⊕◌ as ◌+s◌, ⊖◌ as -s◌, ◌⊗◌ as ◌*s◌}

  pub inj : (p q : Poly F) → coef p ≡ coef q → p ≡ q
  inj p q e = ext p q (λ n. ap (λ (f : ℕ → C). f n) e)

  pub add_s : (p q : Poly F) → coef (add_p p q) ≡ coef p +s coef q
  unfolding Series
  add_s p q = fun_ext (coef_add p q)

  pub neg_s : (p : Poly F) → coef (neg_p p) ≡ -s coef p
  unfolding Series
  neg_s p = fun_ext (coef_neg p)

  pub mul_s : (p q : Poly F) → coef (mul_p p q) ≡ coef p *s coef q
  unfolding Series
  mul_s p q = fun_ext (coef_conv p q)

  pub one_s : coef one_p ≡ (Series F.ring).𝟙
  unfolding Series
  one_s = fun_ext coef_one

  pub zero_s : coef zero_p ≡ (Series F.ring).𝟘
  unfolding Series
  zero_s = refl

  unfoldable pub Polynomials : CommRing (Poly F)
  Polynomials = record {
    𝟘 = zero_p;
    𝟙 = one_p;
    ◌⊕◌ = add_p;
    ⊖◌ = neg_p;
    ◌⊗◌ = mul_p;
    ⊕-assoc = λ p q r. inj _ _ (simp (add_s) ((Series F.ring).⊕-assoc (coef p) (coef q) (coef r)));
    ⊕-comm = λ p q. inj _ _ (simp (add_s) ((Series F.ring).⊕-comm (coef p) (coef q)));
    ⊕-zero = λ p. inj _ _ (rw (add_s, zero_s) ((Series F.ring).⊕-zero (coef p)));
    ⊕-neg = λ p. inj _ _ (rw (add_s, neg_s p, zero_s) ((Series F.ring).⊕-neg (coef p)));
    ⊗-assoc = λ p q r. inj _ _ (simp (mul_s) ((Series F.ring).⊗-assoc (coef p) (coef q) (coef r)));
    ⊗-comm = λ p q. inj _ _ (simp (mul_s) ((Series F.ring).⊗-comm (coef p) (coef q)));
    ⊗-one = λ p. inj _ _ (rw (mul_s, one_s) ((Series F.ring).⊗-one (coef p)));
    ⊗-dist = λ p q r. inj _ _ (simp (mul_s, add_s) ((Series F.ring).⊗-dist (coef p) (coef q) (coef r)));
  }
