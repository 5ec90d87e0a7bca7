-- Multiples by the inverse of the top coefficient.
use Rattle.std.proofs.Common.{◌≡◌, ℕ, zero, suc, ◌-◌, ◌<◌, ◌≤◌, ◌≢◌, [], ◌∷◌, get_or, Option, Some, None, sym, refl, ap, ◌∙◌, subst, ⊎_elim, arith}
use Rattle.std.specs.Option.{unwrap_or}
use Rattle.std.proofs.lemmas.Bool.{cases_lt}
use Rattle.field.specs.Meaning.{Meaning, Lawful}
use Rattle.ring.proofs.Ring.{⊗-zero, zero-⊗, one-⊗}
use Rattle.ring.proofs.Poly.{mul_p, one_p, zero_p, coef, coef_one, ext, Polynomials}
use Rattle.ring.proofs.Series.{unit}
use Rattle.ring.proofs.Sizes.{len, zero_len}
use Rattle.algebra.specs.Codes.{code, codes, ring_c, one_low, R}
use Rattle.poly.specs.Values.{at, size, Is, constant_p}
use Rattle.poly.specs.Rules.{TopInverse, Scaled, Monic, Divides, TopOne}
use Rattle.poly.specs.declared.poly.Poly.{Poly}
use Rattle.poly.proofs.Bridge.{at_is, len_is, code_product, code_one, code_zero, code_inj, coef_constant}
use Rattle.poly.proofs.Sums.{coef_scaled, len_scaled}
use Rattle.poly.proofs.Quotients.{inverse_is, inverse_some}

pub top_inverse_lem : (m : Meaning) (a : Poly) (top : ℕ) (r : Option ℕ) (u : ℕ) → 0 < size a → top ≡ at a (size a - 1) → r ≡ m.inverse top
    → u ≡ unwrap_or r 1 → TopInverse m a u
top_inverse_lem m a top (Some v) u pos t e f L low =
    let ne : at a (size a - 1) ≢ 0 = a.top pos in
    let i = inverse_is L (at a (size a - 1)) v (omega arith) (low (size a - 1)) (e ∙ ap m.inverse t) in
    let is : v ≡ u = sym f in
    (subst (λ (n : ℕ). n < m.size) is i.0, (λ h. subst (λ (n : ℕ). m.product (at a (size a - 1)) n ≡ 1) is i.1), λ h. absurd (omega arith))
top_inverse_lem m a top None u pos t e f L low =
    let ne : at a (size a - 1) ≢ 0 = a.top pos in
    absurd (inverse_some L (at a (size a - 1)) (omega arith) (low (size a - 1)) (e ∙ ap m.inverse t))

module _ {m : Meaning} (L : Lawful m) where
  infixl 70 ◌⊗◌
  open Polynomials (codes L) use {◌⊗◌, ⊗-comm, ⊗-assoc}

  -- a constant times its inverse
  pub constants : (t c : ℕ) → t < m.size → c < m.size → m.product t c ≡ 1 → mul_p (codes L) (constant_p L t) (constant_p L c) ≡ one_p (codes L)
  unfolding unit
  constants t c ht hc e = ext (codes L) _ _ (λ k. coef_scaled L t (constant_p L c) k ∙ ap ((ring_c L).◌⊗◌ (code L t)) (coef_constant L c k) ∙ go k ∙ sym (coef_one (codes L) k))
    where
      go : (k : ℕ) → (ring_c L).◌⊗◌ (code L t) (get_or (code L c ∷ []) k (ring_c L).𝟘) ≡ unit (ring_c L) k
      go zero = sym (code_product L t c ht hc) ∙ ap (code L) e ∙ code_one L
      go (suc k) = ⊗-zero (ring_c L) (code L t)

  pub undone : (t c : ℕ) (x : R L) → t < m.size → c < m.size → m.product t c ≡ 1
      → x ≡ mul_p (codes L) (constant_p L t) (mul_p (codes L) (constant_p L c) x)
  unfolding Polynomials
  undone t c x ht hc e = sym (sym (⊗-assoc (constant_p L t) (constant_p L c) x)
      ∙ ap (λ (z : R L). mul_p (codes L) z x) (constants t c ht hc e) ∙ one-⊗ (Polynomials (codes L)) x)

  pub one_is : constant_p L 1 ≡ one_p (codes L)
  unfolding unit
  one_is = ext (codes L) _ _ (λ k. coef_constant L 1 k ∙ go k ∙ sym (coef_one (codes L) k))
    where
      go : (k : ℕ) → get_or (code L 1 ∷ []) k (ring_c L).𝟘 ≡ unit (ring_c L) k
      go zero = code_one L
      go (suc k) = refl

  -- the top coefficient of a multiple by its inverse
  pub top_one : (a r : Poly) (x : R L) (c : ℕ) → Is L a x → Is L r (mul_p (codes L) (constant_p L c) x) → c < m.size
      → (0 < size a → m.product (at a (size a - 1)) c ≡ 1) → TopOne r
  top_one a r x c hx hr hc e pos =
      let small : size r ≤ size a = let l = len_scaled L c x (size a) (let q = len_is L hx in omega arith) in let q = len_is L hr in omega arith in
      let a_pos : 0 < size a = omega arith in
      let t = at a (size a - 1) in
      let back = undone t c x (hx.low (size a - 1)) hc (e a_pos) in
      let l2 = len_scaled L t (mul_p (codes L) (constant_p L c) x) (size r) (let q = len_is L hr in omega arith) in
      let large : size a ≤ size r = omega (arith, ap (len (codes L)) back, len_is L hx) in
      let same : size r ≡ size a = omega arith in
      code_inj L (at r (size r - 1)) 1 (hr.low (size r - 1)) (one_low L)
      (at_is L hr (size r - 1) ∙ coef_scaled L c x (size r - 1)
      ∙ ap (λ (n : ℕ). (ring_c L).◌⊗◌ (code L c) (coef (codes L) x (n - 1))) same
      ∙ ap ((ring_c L).◌⊗◌ (code L c)) (sym (at_is L hx (size a - 1)))
      ∙ (ring_c L).⊗-comm (code L c) (code L t) ∙ sym (code_product L t c (hx.low (size a - 1)) hc) ∙ ap (code L) (e a_pos))

  -- a record of length 1 with top coefficient 1
  pub is_one : (p : Poly) (v : R L) → Is L p v → size p ≡ 1 → TopOne p → v ≡ one_p (codes L)
  unfolding unit
  is_one p v h l t = ext (codes L) v (one_p (codes L)) (λ k. sym (at_is L h k) ∙ go k ∙ sym (coef_one (codes L) k))
    where
      go : (k : ℕ) → code L (at p k) ≡ unit (ring_c L) k
      go zero = ap (code L) (ap (λ (n : ℕ). at p n) (omega arith) ∙ t (omega arith)) ∙ code_one L
      go (suc k) = ap (code L) (p.past (suc k) (omega arith)) ∙ code_zero L

  pub scaled_back : (a : Poly) (x : R L) (c : ℕ) → Is L a x → c < m.size → (0 < size a → m.product (at a (size a - 1)) c ≡ 1)
      → Divides L (mul_p (codes L) (constant_p L c) x) x
  unfolding Polynomials
  scaled_back a x c hx hc e = ⊎_elim
      (λ pos. (constant_p L (at a (size a - 1)), undone (at a (size a - 1)) c x (hx.low (size a - 1)) hc (e pos)))
      (λ z. (
        zero_p (codes L),
        zero_len (codes L) x (let q = len_is L hx in omega arith)
            ∙ sym (zero-⊗ (Polynomials (codes L)) (mul_p (codes L) (constant_p L c) x)),
      ))
      (cases_lt 0 (size a))

pub monic_is : (m : Meaning) (a r : Poly) (c : ℕ) → TopInverse m a c → Scaled m c a r → Monic m a r
monic_is m a r c ht hs L x hx = record {
  made = made;
  is = is;
  up = (constant_p L c, refl);
  down = down;
  top = top_one L a r x c hx is t.0 t.1;
}
  where
    t : (c < m.size) × (0 < size a → m.product (at a (size a - 1)) c ≡ 1) × (size a ≡ 0 → c ≡ 1)
    t = ht L hx.low

    made : R L
    made = mul_p (codes L) (constant_p L c) x

    is : Is L r made
    is = hs L x t.0 hx

    down : Divides L made x
    down = scaled_back L a x c hx t.0 t.1
