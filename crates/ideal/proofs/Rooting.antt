-- The root part d, filled from the top: with its coefficients above x^j in place, the coefficient of x^(m+j) in D − v·v is
-- twice the one wanted next.
use Rattle.std.proofs.Common.{◌≡◌, ℕ, ◌+◌, ◌-◌, ◌<◌, ◌≤◌, ◌≢◌, [], ◌∷◌, sym, ap, ◌∙◌, subst, ap₂, arith}
use native.Mathlib.Decide.{ℕ_discrete}
use Rattle.field.specs.Meaning.{Meaning, Lawful}
use Rattle.ring.proofs.Ring.{neg_zero, sub_self→eq}
use Rattle.ring.proofs.Quote.{quote, auto}
use Rattle.ring.proofs.Poly.{Polynomials}
use Rattle.ring.proofs.Sizes.{len_le}
use Rattle.ring.proofs.PolyRing.{PolyRing}
use Rattle.ring.proofs.PolyModel.{poly_ring}
use Rattle.ring.proofs.Lengths.{len_sub, top_cancel}
use Rattle.algebra.specs.Codes.{code, codes, ring_c, zero_low, one_low, R, K}
use Rattle.rules.specs.Settings.{Accepted}
use Rattle.poly.specs.Values.{at, size, Codes, value, Is}
use Rattle.poly.specs.Rules.{TopInverse, Product, Difference, Sum}
use Rattle.poly.specs.declared.poly.Poly.{Poly}
use Rattle.poly.proofs.Bridge.{at_is, len_is, self, moved, size_le, code_zero, code_one, code_sum, code_product, coef_value}

-- a is monic of degree m, and D − a·a has degree below m
module _ {C X : Type 0} (P : PolyRing C X) (D a : X) (m : ℕ) (long : P.len a ≡ m + 1) (monic : P.coef a m ≡ P.k.𝟙)
    (near : P.len (P.r.◌⊕◌ D (P.r.⊖◌ (P.r.◌⊗◌ a a))) ≤ m) where
  infixl 60 ◌⊕◌
  infixl 70 ◌⊗◌
  infix 80 ⊖◌
  open P use {r, len, coef, k}
  open P.r use {𝟘, 𝟙, ◌⊕◌, ⊖◌, ◌⊗◌}

  wanted : (v : X) (j : ℕ) → j < m → len (a ⊕ ⊖ v) ≤ j + 1 → coef (D ⊕ ⊖ (v ⊗ v)) (m + j) ≡ k.◌⊗◌ (coef (a ⊕ ⊖ v) j) (k.◌⊕◌ k.𝟙 k.𝟙)
  wanted v j h l =
      let e = a ⊕ ⊖ v in
      let s = a ⊕ a ⊕ ⊖ e in
      let same : D ⊕ ⊖ (v ⊗ v) ≡ e ⊗ s ⊕ (D ⊕ ⊖ (a ⊗ a)) = auto r (D ∷ a ∷ v ∷ []) (search quote depth 20) tt in
      let ls : len s ≤ m + 1 = len_sub P (a ⊕ a) e (m + 1) (P.len_add a a (m + 1) (omega arith) (omega arith)) (omega arith) in
      let cs : coef s m ≡ k.◌⊕◌ k.𝟙 k.𝟙 =
      P.coef_add (a ⊕ a) (⊖ e) m
      ∙ ap₂ k.◌⊕◌ (P.coef_add a a m ∙ ap₂ k.◌⊕◌ monic monic)
      (P.coef_neg e m ∙ ap k.⊖◌ (P.coef_past e m (omega arith)) ∙ neg_zero k)
      ∙ k.⊕-zero (k.◌⊕◌ k.𝟙 k.𝟙) in
      ap₂ coef same (let z : m + j ≡ j + m = omega arith in z)
      ∙ P.coef_add (e ⊗ s) (D ⊕ ⊖ (a ⊗ a)) (j + m)
      ∙ ap₂ k.◌⊕◌ (P.coef_mul e s j m l ls ∙ ap (k.◌⊗◌ (coef e j)) cs) (P.coef_past (D ⊕ ⊖ (a ⊗ a)) (j + m) (omega (arith, near)))
      ∙ k.⊕-zero (k.◌⊗◌ (coef e j) (k.◌⊕◌ k.𝟙 k.𝟙))

  -- the term with half of that is the next one of a
  pub next : (v u : X) (j : ℕ) (h : C) → j < m → len (a ⊕ ⊖ v) ≤ j + 1 → len u ≤ j + 1 → k.◌⊗◌ (k.◌⊕◌ k.𝟙 k.𝟙) h ≡ k.𝟙
      → coef u j ≡ k.◌⊗◌ (coef (D ⊕ ⊖ (v ⊗ v)) (m + j)) h → len (a ⊕ ⊖ (v ⊕ u)) ≤ j
  next v u j h lt l lu half c =
      let e = a ⊕ ⊖ v in
      let ce : coef e j ≡ coef u j = sym (
      c
      ∙ ap (λ (x : C). k.◌⊗◌ x h) (wanted v j lt l)
      ∙ k.⊗-assoc (coef e j) (k.◌⊕◌ k.𝟙 k.𝟙) h
      ∙ ap (k.◌⊗◌ (coef e j)) half
      ∙ k.⊗-one (coef e j)
      ) in
      let same : a ⊕ ⊖ (v ⊕ u) ≡ e ⊕ ⊖ u = auto r (a ∷ v ∷ u ∷ []) (search quote depth 20) tt in
      subst (λ (n : ℕ). n ≤ j) (sym (ap len same)) (top_cancel P e u j l lu ce)

-- a record whose only coefficient that is not 0 is c, that of x^i
module _ {M : Meaning} (L : Lawful M) (c i : ℕ) (p : Poly) (there : at p i ≡ c) (others : (n : ℕ) → n ≢ i → at p n ≡ 0) where
  pub term_low : c < M.size → Codes M p
  term_low h n = elim (ℕ_discrete n i) [
    | yes e ↦ subst (λ (j : ℕ). at p j < M.size) (sym e) (subst (λ (j : ℕ). j < M.size) (sym there) h)
    | no e ↦ subst (λ (j : ℕ). j < M.size) (sym (others n e)) (zero_low L)
  ]

  pub term_len : (K L).len (value L p) ≤ i + 1
  unfolding poly_ring
  term_len = len_le (codes L) (value L p) (i + 1) (λ n h. coef_value L p n ∙ ap (code L) (others n (omega arith)) ∙ code_zero L)

  pub term_coef : (K L).coef (value L p) i ≡ code L c
  unfolding poly_ring
  term_coef = coef_value L p i ∙ ap (code L) there

-- the inverse of 2, read off the constant 2
pub half_of_one_lem : {M : Meaning} (L : Lawful M) (p : Poly) (h : ℕ) → at p 0 ≡ M.sum 1 1 → ((n : ℕ) → 0 < n → at p n ≡ 0) → TopInverse M p h
    → (h < M.size) × ((K L).k.◌⊗◌ ((K L).k.◌⊕◌ (K L).k.𝟙 (K L).k.𝟙) (code L h) ≡ (K L).k.𝟙)
unfolding poly_ring
half_of_one_lem {M} L p h there others t =
    let two : M.sum 1 1 < M.size = L.sum_closed 1 1 (one_low L) (one_low L) in
    let low : Codes M p = term_low L (M.sum 1 1) 0 p there (λ n ne. others n (omega arith)) two in
    let short : size p ≤ 1 = size_le p 1 (λ n g. others n (omega arith)) in
    let pos : size p ≢ 0 = λ z. L.odd (sym there ∙ p.past 0 (omega arith)) in
    let z : size p - 1 ≡ 0 = omega arith in
    let (hl, inv, _) = t L low in
    let e : M.product (M.sum 1 1) h ≡ 1 = ap (λ (n : ℕ). M.product n h) (sym (ap (at p) z ∙ there)) ∙ inv (omega arith) in (
      hl,
      ap (λ y. (ring_c L).◌⊗◌ y (code L h)) (sym (code_sum L 1 1 (one_low L) (one_low L) ∙ ap₂ (ring_c L).◌⊕◌ (code_one L) (code_one L)))
          ∙ sym (code_product L (M.sum 1 1) h two hl) ∙ ap (code L) e ∙ code_one L,
    )

module _ {M : Meaning} (L : Lawful M) (A : Accepted L) where
  infixl 60 ◌⊕◌
  infixl 70 ◌⊗◌
  infix 80 ⊖◌
  open (K L).r use {𝟘, 𝟙, ◌⊕◌, ⊖◌, ◌⊗◌}

  top_one : (K L).coef A.d A.m ≡ (K L).k.𝟙
  top_one = let (n, l, t) = A.d_monic in let z : n ≡ A.m = omega (arith, A.d_len) in subst (λ (j : ℕ). (K L).coef A.d j ≡ (K L).k.𝟙) z t

  -- the record has the coefficients of d from the top down to that of x^n
  pub record Filled (p : Poly) (n : ℕ) : Type 0 where
    pub part : R L
    pub is : Is L p part
    pub close : (K L).len (A.d ⊕ ⊖ part) ≤ n
    pub within : n ≤ A.m

  pub start : (p : Poly) (i : ℕ) → i ≡ A.m → at p i ≡ 1 → ((n : ℕ) → n ≢ i → at p n ≡ 0) → Filled p i
  unfolding poly_ring
  start p i e there others = record {
    part = value L p;
    is = self L p (term_low L 1 i p there others (one_low L));
    close = let l = top_cancel (K L) A.d (value L p) A.m (omega (arith, A.d_len)) (omega (arith, term_len L 1 i p there others))
        (top_one ∙ sym (code_one L) ∙ sym (subst (λ (j : ℕ). (K L).coef (value L p) j ≡ code L 1) e (term_coef L 1 i p there others))) in omega arith;
    within = omega arith;
  }

  -- what is filled is no longer than d
  pub filled_size : {p : Poly} {n : ℕ} → Filled p n → size p ≤ A.m + 1
  unfolding poly_ring Polynomials
  filled_size {p} {n} F =
      let e = A.d ⊕ ⊖ F.part in
      let same : F.part ≡ A.d ⊕ ⊖ e = auto (K L).r (A.d ∷ F.part ∷ []) (search quote depth 20) tt in
      let l = len_sub (K L) A.d e (A.m + 1) (omega (arith, A.d_len)) (omega (arith, F.close, F.within)) in
      omega (arith, len_is L F.is, ap (K L).len same)

  -- a turn of the loop
  module _ (D d product rest term r : Poly) (a c h half i : ℕ) (D_is : Is L D A.D) (m_is : half ≡ A.m) (F : Filled d (i + 1)) where
    pub again : Product M d d product → Difference M D product rest → a ≡ at rest (half + i) → c ≡ M.product a h
        → (h < M.size) × ((K L).k.◌⊗◌ ((K L).k.◌⊕◌ (K L).k.𝟙 (K L).k.𝟙) (code L h) ≡ (K L).k.𝟙)
        → at term i ≡ c → ((k : ℕ) → k ≢ i → at term k ≡ 0) → Sum M d term r → Filled r i
    unfolding poly_ring Polynomials
    again times minus a_is taken halving there others plus =
        let v = F.part in
        let u = value L term in
        let squared : Is L product (v ⊗ v) = times L v v F.is F.is (omega (arith, filled_size F, A.high)) in
        let left : Is L rest (A.D ⊕ ⊖ (v ⊗ v)) = minus L A.D (v ⊗ v) D_is squared in
        let c_is : c ≡ M.product (at rest (A.m + i)) h = taken ∙ ap (λ (b : ℕ). M.product b h) (a_is ∙ ap (λ (b : ℕ). at rest (b + i)) m_is) in
        let low : c < M.size = subst (λ (j : ℕ). j < M.size) (sym c_is) (L.product_closed (at rest (A.m + i)) h (left.low (A.m + i)) halving.0) in
        let wants : (K L).coef u i ≡ (K L).k.◌⊗◌ ((K L).coef (A.D ⊕ ⊖ (v ⊗ v)) (A.m + i)) (code L h) =
        term_coef L c i term there others ∙ ap (code L) c_is
        ∙ code_product L (at rest (A.m + i)) h (left.low (A.m + i)) halving.0
        ∙ ap (λ y. (ring_c L).◌⊗◌ y (code L h)) (at_is L left (A.m + i)) in
        let l = next (K L) A.D A.d A.m A.d_len top_one A.near v u i (code L h) (omega (arith, F.within)) (omega (arith, F.close))
        (term_len L c i term there others) halving.1 wants in
        record {
          part = v ⊕ u;
          is = plus L v u F.is (self L term (term_low L c i term there others low));
          close = l;
          within = omega (arith, F.within);
        }

  -- filled down to the coefficient of x^0
  pub finish : (p : Poly) (n : ℕ) → n ≡ 0 → Filled p n → Is L p A.d
  finish p n e F =
      let z : (K L).len (A.d ⊕ ⊖ F.part) ≡ 0 = omega (arith, F.close) in
      moved L F.is (sym (sub_self→eq (K L).r A.d F.part ((K L).zero_len (A.d ⊕ ⊖ F.part) z)))
