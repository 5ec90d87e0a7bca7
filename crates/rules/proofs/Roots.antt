-- Every monic D of degree 2m has its d: load's questions are all that a setting asks for.
use Rattle.std.proofs.Common.{◌≡◌, ℕ, zero, suc, ◌+◌, ◌≤◌, ◌≢◌, List, [], ◌∷◌, length, sym, refl, ap, ◌∙◌, ap₂, arith}
use native.Mathlib.Decide.{dec_le}
use lib.ListN.{get_or-eq_default}
use Rattle.field.specs.Meaning.{Meaning, Lawful}
use Rattle.algebra.specs.Codes.{codes, R, K}
use Rattle.ring.proofs.Quote.{quote, auto}
use Rattle.ring.proofs.Hypotheses.{by_hyp}
use Rattle.ring.proofs.Field.{Field}
use Rattle.ring.proofs.Coeffs.{seq}
use Rattle.ring.proofs.Poly.{Poly, poly, coef_poly}
use Rattle.ring.proofs.Sizes.{len_le}
use Rattle.ring.proofs.PolyRing.{PolyRing}
use Rattle.ring.proofs.PolyModel.{poly_ring}
use Rattle.ring.proofs.Lengths.{len_mul_≤, longer, twice, half, top_cancel}
use Rattle.algebra.proofs.Group.{coef_one}
use Rattle.rules.specs.Settings.{EvenDegree, Monic, Coprime, Accepted}

module _ {C X : Type 0} (P : PolyRing C X) (mono : C → ℕ → X) (mono_len : (c : C) (n : ℕ) → P.len (mono c n) ≤ n + 1)
    (mono_coef : (c : C) (n : ℕ) → P.coef (mono c n) n ≡ c) (D : X) (m : ℕ) where
  infixl 60 ◌⊕◌
  infixl 70 ◌⊗◌
  infix 80 ⊖◌
  open P use {r, len, coef, k}
  open P.r use {𝟘, 𝟙, ◌⊕◌, ⊖◌, ◌⊗◌}

  -- d is monic of degree m, and D − d·d has degree below n
  record Near (d : X) (n : ℕ) : Type 0 where
    long : len d ≡ m + 1
    monic : coef d m ≡ k.𝟙
    near : len (D ⊕ ⊖ (d ⊗ d)) ≤ n

  nearer : (j : ℕ) (d : X) → suc j ≤ m → Near d (suc j + m) → (e : X) × Near e (j + m)
  nearer j d h N =
      let e = D ⊕ ⊖ (d ⊗ d) in
      let u = mono (coef e (j + m)) j in
      let (g, gg) = half P in
      let t = g ⊗ u in
      let lg : len g ≡ 1 = sym (twice P g) ∙ ap len gg ∙ P.len_one in
      let lu : len u ≤ j + 1 = mono_len (coef e (j + m)) j in
      let lt : len t ≤ j + 1 = len_mul_≤ P g u (j + 1) (omega arith) in
      let tt' : t ⊕ t ≡ u = by_hyp r u gg (auto r (g ∷ u ∷ []) (search quote depth 20) tt) in
      let ld : len d ≡ m + 1 = N.long in
      let q = u ⊗ d ⊕ t ⊗ t in
      let l₁ : len (u ⊗ d) ≤ j + m + 1 = len_mul_≤ P u d (j + m + 1) (omega arith) in
      let l₂ : len (t ⊗ t) ≤ j + m = len_mul_≤ P t t (j + m) (omega arith) in
      let lq : len q ≤ j + m + 1 = P.len_add (u ⊗ d) (t ⊗ t) (j + m + 1) l₁ (omega arith) in
      let cq : coef q (j + m) ≡ coef e (j + m) =
      P.coef_add (u ⊗ d) (t ⊗ t) (j + m)
      ∙ ap₂ k.◌⊕◌ (P.coef_mul u d j m lu (omega arith) ∙ ap₂ k.◌⊗◌ (mono_coef (coef e (j + m)) j) N.monic ∙ k.⊗-one (coef e (j + m)))
      (P.coef_past (t ⊗ t) (j + m) l₂)
      ∙ k.⊕-zero (coef e (j + m)) in
      let le : len e ≤ j + m + 1 = omega (arith, N.near) in
      let low : len (e ⊕ ⊖ q) ≤ j + m = top_cancel P e q (j + m) le lq (sym cq) in
      let same : D ⊕ ⊖ ((d ⊕ t) ⊗ (d ⊕ t)) ≡ e ⊕ ⊖ q = by_hyp r (⊖ d) tt' (auto r (D ∷ d ∷ t ∷ u ∷ []) (search quote depth 20) tt) in (
        d ⊕ t,
        record {
          long = longer P d t (omega arith) ∙ ld;
          monic = P.coef_add d t m ∙ ap₂ k.◌⊕◌ N.monic (P.coef_past t m (omega arith)) ∙ k.⊕-zero k.𝟙;
          near = rw same low;
        },
      )

  nearest : (j : ℕ) (d : X) → j ≤ m → Near d (j + m) → (e : X) × Near e (0 + m)
  nearest zero d h N = (d, N)
  nearest (suc j) d h N = let (e, E) = nearer j d h N in nearest j e (omega arith) E

  pub root : len D ≡ m + m + 1 → coef D (m + m) ≡ k.𝟙 → (d : X) × (len d ≡ m + 1) × (coef d m ≡ k.𝟙) × (len (D ⊕ ⊖ (d ⊗ d)) ≤ m)
  root l c =
      let (e, E) = nearest m d (omega arith) (record {
        long = ld;
        monic = cd;
        near = top_cancel P D (d ⊗ d) (m + m) (omega arith) (len_mul_≤ P d d (m + m + 1) (omega (arith, ld)))
            (c ∙ sym (P.coef_mul d d m m (omega (arith, ld)) (omega (arith, ld)) ∙ ap₂ k.◌⊗◌ cd cd ∙ k.⊗-one k.𝟙));
      }) in
      (e, E.long, E.monic, omega (arith, E.near))
    where
      d : X
      d = mono k.𝟙 m

      cd : coef d m ≡ k.𝟙
      cd = mono_coef k.𝟙 m

      one_alive : k.𝟙 ≢ k.𝟘
      one_alive z = P.coef_top 𝟙 0 (omega (arith, P.len_one)) (coef_one P ∙ z)

      ld : len d ≡ m + 1
      ld = elim (dec_le (len d) m) [
        | yes h ↦ absurd (one_alive (sym cd ∙ P.coef_past d m h))
        | no h ↦ omega (arith, mono_len k.𝟙 m)
      ]

-- c times the n-th power of x
module _ {C : Type 0} (F : Field C) where
  abbrev mono_l : C → ℕ → List C
  mono_l c zero = c ∷ []
  mono_l c (suc n) = F.ring.𝟘 ∷ mono_l c n

  mono_l_length : (c : C) (n : ℕ) → length (mono_l c n) ≡ suc n
  mono_l_length c zero = refl
  mono_l_length c (suc n) = ap suc (mono_l_length c n)

  mono_l_top : (c : C) (n : ℕ) → seq F.ring (mono_l c n) n ≡ c
  mono_l_top c zero = refl
  mono_l_top c (suc n) = mono_l_top c n

  abbrev monomial : C → ℕ → Poly F
  monomial c n = poly F (mono_l c n)

  monomial_len : (c : C) (n : ℕ) → (poly_ring F).len (monomial c n) ≤ n + 1
  unfolding poly_ring
  monomial_len c n = len_le F (monomial c n) (n + 1)
      (λ k h. coef_poly F (mono_l c n) k ∙ get_or-eq_default (mono_l c n) F.ring.𝟘 (omega (arith, mono_l_length c n)))

  monomial_coef : (c : C) (n : ℕ) → (poly_ring F).coef (monomial c n) n ≡ c
  unfolding poly_ring
  monomial_coef c n = coef_poly F (mono_l c n) n ∙ mono_l_top c n

-- D that passes 21 to 23 is the D of a setting
pub accepted_exists : {M : Meaning} (L : Lawful M) (D : R L) → EvenDegree L D → Monic L D → Coprime L D ((K L).der D) → (A : Accepted L) × (A.D ≡ D)
accepted_exists L D (m, l, lo, hi) (n, e, t) p =
    let z : n ≡ m + m = omega arith in
    let (d, ld, cd, near) = root (K L) (monomial (codes L)) (monomial_len (codes L)) (monomial_coef (codes L)) D m l (rw (sym z) t) in
    (record { D = D; m = m; d = d; low = lo; high = hi; D_len = l; D_monic = (n, e, t); plain = p; d_len = ld; d_monic = (m, ld, cd); near = near }, refl)
