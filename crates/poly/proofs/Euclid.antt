-- Euclid's algorithm with multipliers.
use Rattle.std.proofs.Common.{◌≡◌, ℕ, ◌+◌, ◌-◌, ◌<◌, ◌≤◌, ◌≢◌, ◌⊎◌, [], ◌∷◌, sym, ap, ◌∙◌, subst, inl, inr, arith}
use native.Mathlib.Decide.{dec_le, ℕ_discrete}
use Rattle.field.specs.Meaning.{Meaning, Lawful}
use Rattle.ring.proofs.Ring.{CommRing, ⊗-zero, zero-⊗, zero-⊕, one-⊗}
use Rattle.ring.proofs.Quote.{quote, auto}
use Rattle.ring.proofs.Hypotheses.{by_hyp, by_hyp₂, by_hyp₃}
use Rattle.ring.proofs.Poly.{add_p, neg_p, mul_p, zero_p, one_p, Polynomials}
use Rattle.ring.proofs.Sizes.{len, zero_len, len_add, len_neg, len_mul}
use Rattle.algebra.specs.Codes.{codes, R}
use Rattle.poly.specs.Values.{at, size, Is, constant_p}
use Rattle.poly.specs.Rules.{Division, Divided, Less, Scaled, TopInverse, Divides, Combined}
use Rattle.poly.specs.declared.poly.Poly.{Poly}
use Rattle.poly.proofs.Bridge.{len_is}
use Rattle.poly.proofs.Products.{len_product}
use Rattle.poly.proofs.Monics.{top_one, scaled_back}

-- the identities, in any ring
module _ {C : Type 0} (K : CommRing C) where
  infixl 60 ◌⊕◌
  infixl 70 ◌⊗◌
  infix 80 ⊖◌
  open K use {𝟘, 𝟙, ◌⊕◌, ⊖◌, ◌⊗◌}

  pub next_sum : (r0 r1 q r2 x y x0 y0 x1 y1 : C) → r0 ≡ q ⊗ r1 ⊕ r2 → r0 ≡ x0 ⊗ x ⊕ y0 ⊗ y → r1 ≡ x1 ⊗ x ⊕ y1 ⊗ y
      → r2 ≡ (x0 ⊕ ⊖ (q ⊗ x1)) ⊗ x ⊕ (y0 ⊕ ⊖ (q ⊗ y1)) ⊗ y
  next_sum r0 r1 q r2 x y x0 y0 x1 y1 h e f = by_hyp₃ K (⊖ 𝟙) h 𝟙 e (⊖ q) f
      (auto K (r0 ∷ r1 ∷ q ∷ r2 ∷ x ∷ y ∷ x0 ∷ y0 ∷ x1 ∷ y1 ∷ []) (search quote depth 20) tt)

  pub sum_multiple : (r0 r1 q r2 d w v : C) → r0 ≡ q ⊗ r1 ⊕ r2 → r1 ≡ w ⊗ d → r2 ≡ v ⊗ d → r0 ≡ (q ⊗ w ⊕ v) ⊗ d
  sum_multiple r0 r1 q r2 d w v h e f = by_hyp₃ K 𝟙 h q e 𝟙 f
      (auto K (r0 ∷ r1 ∷ q ∷ r2 ∷ d ∷ w ∷ v ∷ []) (search quote depth 20) tt)

  pub multiple : (a b d w v : C) → a ≡ w ⊗ b → b ≡ v ⊗ d → a ≡ (w ⊗ v) ⊗ d
  multiple a b d w v e f = by_hyp₂ K 𝟙 e w f (auto K (a ∷ b ∷ d ∷ w ∷ v ∷ []) (search quote depth 20) tt)

  pub difference : (r0 p r2 : C) → r0 ≡ p ⊕ r2 → p ≡ r0 ⊕ ⊖ r2
  difference r0 p r2 h = by_hyp K (⊖ 𝟙) h (auto K (r0 ∷ p ∷ r2 ∷ []) (search quote depth 20) tt)

  pub scaled_sum : (c r x y u v : C) → r ≡ u ⊗ x ⊕ v ⊗ y → c ⊗ r ≡ (c ⊗ u) ⊗ x ⊕ (c ⊗ v) ⊗ y
  scaled_sum c r x y u v h = by_hyp K c h (auto K (c ∷ r ∷ x ∷ y ∷ u ∷ v ∷ []) (search quote depth 20) tt)

  pub sum_of_multiples : (d x y u v w a b : C) → d ≡ u ⊗ x ⊕ v ⊗ y → x ≡ a ⊗ w → y ≡ b ⊗ w → d ≡ (u ⊗ a ⊕ v ⊗ b) ⊗ w
  sum_of_multiples d x y u v w a b h e f = by_hyp₃ K 𝟙 h u e v f
      (auto K (d ∷ x ∷ y ∷ u ∷ v ∷ w ∷ a ∷ b ∷ []) (search quote depth 20) tt)

  pub first : (x y : C) → x ≡ 𝟙 ⊗ x ⊕ 𝟘 ⊗ y
  first x y = auto K (x ∷ y ∷ []) (search quote depth 20) tt

  pub second : (x y : C) → y ≡ 𝟘 ⊗ x ⊕ 𝟙 ⊗ y
  second x y = auto K (x ∷ y ∷ []) (search quote depth 20) tt

module _ {m : Meaning} (L : Lawful m) where
  abbrev pub ln : R L → ℕ
  ln = len (codes L)

  -- what a division says of lengths
  pub lengths : (r0 r1 q r2 : R L) → r0 ≡ add_p (codes L) (mul_p (codes L) q r1) r2 → ln r2 < ln r1
      → ((ln q ≡ 0) ⊎ (ln q + ln r1 ≤ ln r0 + 1)) × (ln r2 ≤ ln r0)
  unfolding Polynomials
  lengths r0 r1 q r2 h l = go (ℕ_discrete (ln q) 0)
    where
      go : Dec (ln q ≡ 0) → ((ln q ≡ 0) ⊎ (ln q + ln r1 ≤ ln r0 + 1)) × (ln r2 ≤ ln r0)
      go (yes z) = (
        inl z,
        (let e : r0 ≡ r2 = h ∙ ap (λ (t : R L). add_p (codes L) (mul_p (codes L) t r1) r2) (zero_len (codes L) q z)
            ∙ ap (λ (t : R L). add_p (codes L) t r2) (zero-⊗ (Polynomials (codes L)) r1) ∙ zero-⊕ (Polynomials (codes L)) r2 in
            omega (arith, ap ln e)),
      )
      go (no z) =
          let nq : q ≢ zero_p (codes L) = λ e. z (ap ln e) in
          let nr : r1 ≢ zero_p (codes L) = λ e. let k : ln r1 ≡ 0 = ap ln e in absurd (omega arith) in
          let p = mul_p (codes L) q r1 in
          let lm = len_mul (codes L) q r1 nq nr in
          let e : p ≡ add_p (codes L) r0 (neg_p (codes L) r2) = difference (Polynomials (codes L)) r0 p r2 h in
          let n : (k : ℕ) → ln r0 ≤ k → ln r2 ≤ k → ln p ≤ k = λ k g j. subst (λ (t : R L). ln t ≤ k) (sym e)
          (len_add (codes L) r0 (neg_p (codes L) r2) k g (let o = len_neg (codes L) r2 in omega arith)) in
          let big : ln r2 ≤ ln r0 = elim (dec_le (ln r2) (ln r0)) [ yes g ↦ g | no g ↦ absurd (let o = n (ln r2) (omega arith) (omega arith) in omega arith) ] in
          let o = n (ln r0) (omega arith) big in
          (inr (omega arith), big)

  -- the length of a product, with a bound for each case
  pub product_length : (q x1 : R L) (n : ℕ) → (ln q ≡ 0) ⊎ ((ln x1 ≡ 0) ⊎ (ln q + ln x1 ≤ n + 1)) → ln (mul_p (codes L) q x1) ≤ n
  unfolding Polynomials
  product_length q x1 n (inl z) =
      let e : mul_p (codes L) q x1 ≡ zero_p (codes L) = ap (λ (t : R L). mul_p (codes L) t x1) (zero_len (codes L) q z) ∙ zero-⊗ (Polynomials (codes L)) x1 in
      let k : ln (mul_p (codes L) q x1) ≡ 0 = ap ln e in omega arith
  product_length q x1 n (inr (inl z)) =
      let e : mul_p (codes L) q x1 ≡ zero_p (codes L) = ap (λ (t : R L). mul_p (codes L) q t) (zero_len (codes L) x1 z) ∙ ⊗-zero (Polynomials (codes L)) q in
      let k : ln (mul_p (codes L) q x1) ≡ 0 = ap ln e in omega arith
  product_length q x1 n (inr (inr h)) = len_product L q x1 n h

  -- a multiplier's next length
  pub next_length : (x0 q x1 : R L) (r0 r1 nb : ℕ) → (ln q ≡ 0) ⊎ (ln q + r1 ≤ r0 + 1) → ln x0 ≤ nb + 1 - r1 → ln x1 ≤ nb + 1 - r0
      → ln (add_p (codes L) x0 (neg_p (codes L) (mul_p (codes L) q x1))) ≤ nb + 1 - r1
  next_length x0 q x1 r0 r1 nb h h0 h1 =
      let p = mul_p (codes L) q x1 in
      len_add (codes L) x0 (neg_p (codes L) p) (nb + 1 - r1) h0
      (let o = len_neg (codes L) p in let l = product_length q x1 (nb + 1 - r1) (cases h) in omega arith)
    where
      cases : (ln q ≡ 0) ⊎ (ln q + r1 ≤ r0 + 1) → (ln q ≡ 0) ⊎ ((ln x1 ≡ 0) ⊎ (ln q + ln x1 ≤ nb + 1 - r1 + 1))
      cases (inl z) = inl z
      cases (inr g) = elim (ℕ_discrete (ln x1) 0) [ yes z ↦ inr (inl z) | no z ↦ inr (inr (omega arith)) ]

pub fits : (q x1 r0 r1 nb : ℕ) → q ≤ 128 → x1 ≤ 128 → nb ≤ 128 → 0 < r1 → (q ≡ 0) ⊎ (q + r1 ≤ r0 + 1) → x1 ≤ nb + 1 - r0 → q + x1 ≤ 129
fits q x1 r0 r1 nb hq hx hn pos (inl z) h = omega arith
fits q x1 r0 r1 nb hq hx hn pos (inr g) h = omega arith

module _ {m : Meaning} (L : Lawful m) (x y : R L) (na nb : ℕ) where
  pub record Euclid (r0 r1 x0 y0 x1 y1 : Poly) : Type 0 where
    pub R0 : R L
    pub R1 : R L
    pub X0 : R L
    pub Y0 : R L
    pub X1 : R L
    pub Y1 : R L
    pub r0_is : Is L r0 R0
    pub r1_is : Is L r1 R1
    pub x0_is : Is L x0 X0
    pub y0_is : Is L y0 Y0
    pub x1_is : Is L x1 X1
    pub y1_is : Is L y1 Y1
    pub sum0 : R0 ≡ add_p (codes L) (mul_p (codes L) X0 x) (mul_p (codes L) Y0 y)
    pub sum1 : R1 ≡ add_p (codes L) (mul_p (codes L) X1 x) (mul_p (codes L) Y1 y)
    pub common : (d : R L) → Divides L d R0 → Divides L d R1 → Divides L d x × Divides L d y
    pub x0_len : ln L X0 ≤ nb + 1 - ln L R1
    pub x1_len : ln L X1 ≤ nb + 1 - ln L R0
    pub y0_len : ln L Y0 ≤ na + 1 - ln L R1
    pub y1_len : ln L Y1 ≤ na + 1 - ln L R0

  pub start : {a b one nil nil' one' : Poly} → Is L a x → Is L b y → na ≡ size a → nb ≡ size b
      → Is L one (one_p (codes L)) → Is L nil (zero_p (codes L)) → Is L nil' (zero_p (codes L)) → Is L one' (one_p (codes L))
      → Euclid a b one nil nil' one'
  unfolding Polynomials
  start {a} {b} {one} {nil} {nil'} {one'} hx hy ea eb h1 h0 h0' h1' = record {
    R0 = x;
    R1 = y;
    X0 = one_p (codes L);
    Y0 = zero_p (codes L);
    X1 = zero_p (codes L);
    Y1 = one_p (codes L);
    r0_is = hx;
    r1_is = hy;
    x0_is = h1;
    y0_is = h0;
    x1_is = h0';
    y1_is = h1';
    sum0 = first (Polynomials (codes L)) x y;
    sum1 = second (Polynomials (codes L)) x y;
    common = λ d h g. (h, g);
    x0_len = let l = len_is L hy in omega arith;
    x1_len = omega arith;
    y0_len = omega arith;
    y1_len = let l = len_is L hx in omega arith;
  }

  pub again : {r0 r1 x0 y0 x1 y1 q r2 x2 y2 : Poly} → Euclid r0 r1 x0 y0 x1 y1 → na ≤ 128 → nb ≤ 128
      → 0 < size r1 → (0 < size r1 → size r2 < size r1) → Division m r0 r1 q r2
      → Less m x0 q x1 x2 → Less m y0 q y1 y2
      → Euclid r1 r2 x1 y1 x2 y2
  unfolding Polynomials
  again {r0} {r1} {x0} {y0} {x1} {y1} {q} {r2} {x2} {y2} h ha hb pos less div hx2 hy2 = record {
    R0 = h.R1;
    R1 = R2;
    X0 = h.X1;
    Y0 = h.Y1;
    X1 = X2;
    Y1 = Y2;
    r0_is = h.r1_is;
    r1_is = D.remainder_is;
    x0_is = h.x1_is;
    y0_is = h.y1_is;
    x1_is = hx2 L h.X0 Q h.X1 h.x0_is D.quotient_is h.x1_is
        (room (size x1) nb hb x1.short (let o = len_is L h.x1_is in let k = h.x1_len in omega arith));
    y1_is = hy2 L h.Y0 Q h.Y1 h.y0_is D.quotient_is h.y1_is
        (room (size y1) na ha y1.short (let o = len_is L h.y1_is in let k = h.y1_len in omega arith));
    sum0 = h.sum1;
    sum1 = next_sum (Polynomials (codes L)) h.R0 h.R1 Q R2 x y h.X0 h.Y0 h.X1 h.Y1 D.sums h.sum0 h.sum1;
    common = λ d f g. h.common d (add_p (codes L) (mul_p (codes L) Q f.0) g.0, sum_multiple (Polynomials (codes L)) h.R0 h.R1 Q R2 d f.0 g.0 D.sums f.1 g.1) f;
    x0_len = let k = h.x1_len in let o = T.1 in omega arith;
    x1_len = next_length L h.X0 Q h.X1 (ln L h.R0) (ln L h.R1) nb T.0 h.x0_len h.x1_len;
    y0_len = let k = h.y1_len in let o = T.1 in omega arith;
    y1_len = next_length L h.Y0 Q h.Y1 (ln L h.R0) (ln L h.R1) na T.0 h.y0_len h.y1_len;
  }
    where
      D : Divided L h.R0 h.R1 q r2
      D = div L h.R0 h.R1 h.r0_is h.r1_is

      Q : R L
      Q = D.quotient

      R2 : R L
      R2 = D.remainder

      X2 : R L
      X2 = add_p (codes L) h.X0 (neg_p (codes L) (mul_p (codes L) Q h.X1))

      Y2 : R L
      Y2 = add_p (codes L) h.Y0 (neg_p (codes L) (mul_p (codes L) Q h.Y1))

      T : ((ln L Q ≡ 0) ⊎ (ln L Q + ln L h.R1 ≤ ln L h.R0 + 1)) × (ln L R2 ≤ ln L h.R0)
      T = lengths L h.R0 h.R1 Q R2 D.sums
          (let o = len_is L h.r1_is in let k = len_is L D.remainder_is in let j = less pos in omega arith)

      room : (n b : ℕ) → b ≤ 128 → n ≤ 128 → n ≤ b + 1 - ln L h.R0 → size q + n ≤ 129
      room n b hb hn l = let o = len_is L D.quotient_is in let k = len_is L h.r1_is in
          subst (λ (z : ℕ). z + n ≤ 129) o (fits (ln L Q) n (ln L h.R0) (ln L h.R1) b (let j = q.short in omega arith) hn hb (omega arith) T.0 l)

  pub finish : {r0 r1 x0 y0 x1 y1 p q g : Poly} {c : ℕ} → Euclid r0 r1 x0 y0 x1 y1 → size r1 ≡ 0 → TopInverse m r0 c
      → Scaled m c x0 p → Scaled m c y0 q → Scaled m c r0 g → Combined L x y p q g
  unfolding Polynomials
  finish {r0} {r1} {x0} {y0} {x1} {y1} {p} {q} {g} {c} h z ht hp hq hg = record {
    u = mul_p (codes L) (constant_p L c) h.X0;
    v = mul_p (codes L) (constant_p L c) h.Y0;
    d = mul_p (codes L) (constant_p L c) h.R0;
    p_is = hp L h.X0 t.0 h.x0_is;
    q_is = hq L h.Y0 t.0 h.y0_is;
    g_is = hg L h.R0 t.0 h.r0_is;
    sums = sums;
    left = through x both.0;
    right = through y both.1;
    greatest = λ w e f. (
      add_p (codes L) (mul_p (codes L) (mul_p (codes L) (constant_p L c) h.X0) e.0) (mul_p (codes L) (mul_p (codes L) (constant_p L c) h.Y0) f.0),
      sum_of_multiples (Polynomials (codes L)) (mul_p (codes L) (constant_p L c) h.R0) x y (mul_p (codes L) (constant_p L c) h.X0) (mul_p (codes L) (constant_p L c) h.Y0)
          w e.0 f.0 sums e.1 f.1,
    );
    top = top_one L r0 g h.R0 c h.r0_is (hg L h.R0 t.0 h.r0_is) t.0 t.1;
  }
    where
      t : (c < m.size) × (0 < size r0 → m.product (at r0 (size r0 - 1)) c ≡ 1) × (size r0 ≡ 0 → c ≡ 1)
      t = ht L h.r0_is.low

      sums : mul_p (codes L) (constant_p L c) h.R0
          ≡ add_p (codes L) (mul_p (codes L) (mul_p (codes L) (constant_p L c) h.X0) x) (mul_p (codes L) (mul_p (codes L) (constant_p L c) h.Y0) y)
      sums = scaled_sum (Polynomials (codes L)) (constant_p L c) h.R0 x y h.X0 h.Y0 h.sum0

      none : h.R1 ≡ zero_p (codes L)
      none = zero_len (codes L) h.R1 (let o = len_is L h.r1_is in omega arith)

      both : Divides L h.R0 x × Divides L h.R0 y
      both = h.common h.R0 (one_p (codes L), sym (one-⊗ (Polynomials (codes L)) h.R0)) (zero_p (codes L), none ∙ sym (zero-⊗ (Polynomials (codes L)) h.R0))

      back : Divides L (mul_p (codes L) (constant_p L c) h.R0) h.R0
      back = scaled_back L r0 h.R0 c h.r0_is t.0 t.1

      through : (w : R L) → Divides L h.R0 w → Divides L (mul_p (codes L) (constant_p L c) h.R0) w
      through w e = (mul_p (codes L) e.0 back.0, multiple (Polynomials (codes L)) w h.R0 (mul_p (codes L) (constant_p L c) h.R0) e.0 back.0 e.1 back.1)
