-- Division with remainder, from the top coefficient down, and the inverse of a constant.
use mathlib.Core.Path.{◌≡◌, sym, ◌∙◌, ap, ap₂, fun_ext, subst}
use mathlib.Core.Logic.{◌≢◌}
use mathlib.Core.List.{List, [], ◌∷◌}
use Prim.Native.Nat.{ℕ, zero, suc, ◌+◌, ◌-◌, ◌≤◌, ◌<◌, zero-le}
use native.Mathlib.Omega.{arith}
use native.Mathlib.Decide.{ℕ_discrete}
use lib.ListN.{length, get_or-eq_default}
use Rattle.ring.proofs.Ring.{CommRing, ⊗-zero}
use Rattle.ring.proofs.Quote.{quote, auto}
use Rattle.ring.proofs.Hypotheses.{by_hyp}
use Rattle.ring.proofs.Field.{Field}
use Rattle.ring.proofs.Series.{conv, conv_zero}
use Rattle.ring.proofs.Tops.{conv_const, Ends}
use Rattle.ring.proofs.Coeffs.{seq, add_l, scale_l, seq_add, seq_scale, Trim, trim_len, norm, trim_norm, seq_norm}
use Rattle.ring.proofs.Poly.{Poly, poly, coef, coef_poly, zero_p, one_p, add_p, mul_p, ext, coef_add, coef_conv}
use Rattle.ring.proofs.Sizes.{len, coef_top, coef_past, len_le, len_pos, ends}

-- b has its top coefficient at m, and u is the inverse of that
module _ {C : Type 0} (R : CommRing C) (zero? : (a : C) → Dec (a ≡ R.𝟘)) (b : List C) (m : ℕ) (u : C) where
  infixl 60 ◌⊕◌
  infixl 70 ◌⊗◌
  infix 80 ⊖◌
  open R use {𝟘, 𝟙, ◌⊕◌, ⊖◌, ◌⊗◌, ⊕-zero}

  -- what the next coefficient c of the dividend, and the remainder s so far, give: a coefficient of the quotient
  abbrev pub digit : C → List C → C
  digit c s = seq R (c ∷ s) m ⊗ u

  abbrev pub rest : C → List C → List C
  rest c s = norm R zero? (add_l R (c ∷ s) (scale_l R (⊖ digit c s) b))

  unfoldable pub div_l : List C → List C × List C
  div_l [] = ([], [])
  div_l (c ∷ l) = let r = div_l l in (digit c r.1 ∷ r.0, rest c r.1)

  pub seq_rest : (c : C) (s : List C) (n : ℕ) → seq R (rest c s) n ≡ seq R (c ∷ s) n ⊕ ⊖ digit c s ⊗ seq R b n
  seq_rest c s n = seq_norm R zero? (add_l R (c ∷ s) (scale_l R (⊖ digit c s) b)) n
      ∙ seq_add R (c ∷ s) (scale_l R (⊖ digit c s) b) n
      ∙ ap (λ x. seq R (c ∷ s) n ⊕ x) (seq_scale R (⊖ digit c s) b n)

  pub div_seq : (l : List C) (n : ℕ) → seq R l n ≡ conv R (seq R (div_l l).0) (seq R b) n ⊕ seq R (div_l l).1 n
  unfolding div_l conv
  div_seq [] n = sym (⊕-zero _ ∙ conv_zero R n (seq R b))
  div_seq (c ∷ l) zero =
      sym (ap (λ x. digit c (div_l l).1 ⊗ seq R b 0 ⊕ x) (seq_rest c (div_l l).1 0)
      ∙ auto R (c ∷ digit c (div_l l).1 ∷ seq R b 0 ∷ []) (search quote depth 20) tt)
  div_seq (c ∷ l) (suc n) =
      div_seq l n ∙ sym (ap (λ x. digit c (div_l l).1 ⊗ seq R b (suc n) ⊕ conv R (seq R (div_l l).0) (seq R b) n ⊕ x) (seq_rest c (div_l l).1 (suc n))
      ∙ auto R (digit c (div_l l).1 ∷ seq R b (suc n) ∷ conv R (seq R (div_l l).0) (seq R b) n ∷ seq R (div_l l).1 n ∷ []) (search quote depth 20) tt)

  pub div_trim : (l : List C) → Trim R (div_l l).1
  unfolding div_l
  div_trim [] = tt
  div_trim (c ∷ l) = trim_norm R zero? (add_l R (c ∷ (div_l l).1) (scale_l R (⊖ digit c (div_l l).1) b))

  pub rest_len : (c : C) (s : List C) → seq R b m ⊗ u ≡ 𝟙 → Ends R (seq R b) m → length s ≤ m → length (rest c s) ≤ m
  rest_len c s e h g = trim_len R (rest c s) m (trim_norm R zero? (add_l R (c ∷ s) (scale_l R (⊖ digit c s) b)))
      (λ k l. seq_rest c s k ∙ go k l (ℕ_discrete k m))
    where
      go : (k : ℕ) → m ≤ k → Dec (k ≡ m) → seq R (c ∷ s) k ⊕ ⊖ digit c s ⊗ seq R b k ≡ 𝟘
      go k l (yes q) = subst (λ (j : ℕ). seq R (c ∷ s) j ⊕ ⊖ digit c s ⊗ seq R b j ≡ 𝟘) (sym q)
          (by_hyp R (⊖ seq R (c ∷ s) m) e (auto R (seq R (c ∷ s) m ∷ u ∷ seq R b m ∷ []) (search quote depth 20) tt))
      go k l (no q) =
          let f : m < k = omega arith in
          ap₂ (λ x y. x ⊕ ⊖ digit c s ⊗ y) (get_or-eq_default (c ∷ s) 𝟘 {n = k} (omega arith)) (h k f)
          ∙ auto R (digit c s ∷ []) (search quote depth 20) tt

  pub div_len : (l : List C) → seq R b m ⊗ u ≡ 𝟙 → Ends R (seq R b) m → length (div_l l).1 ≤ m
  unfolding div_l
  div_len [] e h = zero-le
  div_len (c ∷ l) e h = rest_len c (div_l l).1 e h (div_len l e h)

module _ {C : Type 0} (F : Field C) where
  infixl 60 ◌⊕◌
  infixl 70 ◌⊗◌
  infix 80 ⊖◌
  open F.ring use {𝟘, 𝟙, ◌⊕◌, ⊖◌, ◌⊗◌}

  abbrev pub div_poly : Poly F → Poly F → List C × List C
  div_poly a b = div_l F.ring F.zero? b.list (len F b - 1) (F.inv (coef F b (len F b - 1))) a.list

  unfoldable pub quo : Poly F → Poly F → Poly F
  quo a b = poly F (div_poly a b).0

  unfoldable pub rem : Poly F → Poly F → Poly F
  rem a b = record { list = (div_poly a b).1; trim = div_trim F.ring F.zero? b.list (len F b - 1) (F.inv (coef F b (len F b - 1))) a.list }

  pub quo_rem : (a b : Poly F) → a ≡ add_p F (mul_p F (quo a b) b) (rem a b)
  unfolding quo rem
  quo_rem a b = ext F a (add_p F (mul_p F (quo a b) b) (rem a b)) (λ n.
      div_seq F.ring F.zero? b.list (len F b - 1) (F.inv (coef F b (len F b - 1))) a.list n
      ∙ sym (coef_add F (mul_p F (quo a b) b) (rem a b) n
      ∙ ap (λ x. x ⊕ coef F (rem a b) n) (coef_conv F (quo a b) b n
      ∙ ap (λ (f : ℕ → C). conv F.ring f (coef F b) n) (fun_ext (coef_poly F (div_poly a b).0)))))

  pub rem_len : (a b : Poly F) → b ≢ zero_p F → len F (rem a b) < len F b
  unfolding rem
  rem_len a b h =
      let g = len_pos F b h in
      let m = len F b - 1 in
      let e : len F b ≡ m + 1 = omega arith in
      let f : len F b ≤ m + 1 = omega arith in
      let r : len F (rem a b) ≤ m = div_len F.ring F.zero? b.list m (F.inv (coef F b m)) a.list
      (F.⊗-inv (coef F b m) (coef_top F b m e)) (ends F b m f) in
      omega arith

  unfoldable pub divide : (a b : Poly F) → b ≢ zero_p F → (q : Poly F) × (s : Poly F) × (a ≡ add_p F (mul_p F q b) s) × (len F s < len F b)
  divide a b h = (quo a b, rem a b, quo_rem a b, rem_len a b h)

  unfoldable pub constant_unit : (p : Poly F) → len F p ≡ 1 → (q : Poly F) × (mul_p F p q ≡ one_p F)
  constant_unit p h = (q, ext F (mul_p F p q) (one_p F) (λ n. coef_conv F p q n ∙ conv_const F.ring n (coef F p) (coef F q) (ends F p 0 (omega arith)) ∙ go n))
    where
      q : Poly F
      q = poly F (F.inv (coef F p 0) ∷ [])

      go : (n : ℕ) → coef F p 0 ⊗ coef F q n ≡ coef F (one_p F) n
      go zero = ap (λ x. coef F p 0 ⊗ x) (coef_poly F (F.inv (coef F p 0) ∷ []) 0) ∙ F.⊗-inv (coef F p 0) (coef_top F p 0 h)
      go (suc n) = ap (λ x. coef F p 0 ⊗ x) (coef_poly F (F.inv (coef F p 0) ∷ []) (suc n)) ∙ ⊗-zero F.ring (coef F p 0)

  -- a unit that makes p monic
  unfoldable pub make_monic : (p : Poly F) (n : ℕ) → len F p ≡ n + 1 → (c : Poly F) × (len F c ≡ 1) × (coef F (mul_p F c p) n ≡ F.ring.𝟙)
  make_monic p n h = (
    c,
    one,
    coef_conv F c p n ∙ conv_const F.ring n (coef F c) (coef F p) (ends F c 0 (omega (arith, one)))
        ∙ ap (λ y. y ⊗ coef F p n) at0 ∙ F.ring.⊗-comm x (coef F p n) ∙ full,
  )
    where
      x : C
      x = F.inv (coef F p n)

      full : coef F p n ⊗ x ≡ F.ring.𝟙
      full = F.⊗-inv (coef F p n) (coef_top F p n h)

      c : Poly F
      c = poly F (x ∷ [])

      at0 : coef F c 0 ≡ x
      at0 = coef_poly F (x ∷ []) 0

      past : (k : ℕ) → 1 ≤ k → coef F c k ≡ 𝟘
      past zero l = absurd (omega arith)
      past (suc k) l = coef_poly F (x ∷ []) (suc k)

      alive : ¬ (len F c ≤ 0)
      alive l = F.one (sym full ∙ ap (λ y. coef F p n ⊗ y) (sym at0 ∙ coef_past F c 0 l) ∙ ⊗-zero F.ring (coef F p n))

      one : len F c ≡ 1
      one = omega (arith, len_le F c 1 past, alive)
