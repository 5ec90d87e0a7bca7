-- An extension of a lawful base by a square root of n, which the base has not, is lawful.
use Rattle.std.proofs.Common.{◌≡◌, ℕ, ◌+◌, ◌*◌, ◌/◌, ◌%◌, ◌<◌, ◌≤◌, Some, None, sym, ap, ◌∙◌, subst, ⊎_elim, mod-lt, mod-eq_of_lt, div-lt_iff_lt-mul, mul-le-mul, mul-le-mul_left, mul-add, arith}
use native.Mathlib.Nat.{mod-add-div, add-mul-mod_self_left, add-mul-div_left, div-eq_of_lt}
use Rattle.std.proofs.lemmas.Bool.{cases_lt}
use Rattle.field.specs.Meaning.{Meaning, Lawful}
use Rattle.field.specs.Extensions.{packed, ext_sum, ext_opposite, ext_product, ext_inverse, ext_norm, over_norm, extended, Extends}
use Rattle.field.proofs.Pairs.{packed_in, sum_in, sum_out, opposite_in, opposite_out, product_in, product_out, inverse_in, inverse_out}
use Rattle.field.proofs.Rings.{s, t, o, pos, one, s_low, t_low, o_low, s_at, t_at, o_at, s_comm, t_comm, s_assoc, t_assoc, s_left, t_left, t_s, s_t, s_zero, zero_s, t_one, s_o, s_cancel, t_zero, t_o, low_assoc, high_assoc}

-- the code of a pair
pub pk : ℕ → ℕ → ℕ → ℕ
pk q a b = a + q * b

pk_low : (q a b : ℕ) → a < q → b < q → pk q a b < q * q
unfolding pk
pk_low q a b ha hb = let h : q * (b + 1) ≤ q * q = mul-le-mul_left q (omega arith) in omega (arith, mul-add q b 1)

pk_mod : (q a b : ℕ) → a < q → pk q a b % q ≡ a
unfolding pk
pk_mod q a b ha = add-mul-mod_self_left a q b ∙ mod-eq_of_lt ha

pk_div : (q a b : ℕ) → a < q → pk q a b / q ≡ b
unfolding pk
pk_div q a b ha = let p : 0 < q = omega arith in add-mul-div_left a b p ∙ ap (λ x. x + b) (div-eq_of_lt ha) ∙ (let e : 0 + b ≡ b = omega arith in e)

pk_zero : (q : ℕ) → pk q 0 0 ≡ 0
unfolding pk
pk_zero q = omega arith

pk_one : (q : ℕ) → pk q 1 0 ≡ 1
unfolding pk
pk_one q = omega arith

pk_none : (q a b : ℕ) → pk q a b ≡ 0 → a ≡ 0
unfolding pk
pk_none q a b e = omega arith

pk_of : (q x : ℕ) → pk q (x % q) (x / q) ≡ x
unfolding pk
pk_of q x = mod-add-div x q

packed_pk : (q a b : ℕ) → a < q → b < q → packed q a b ≡ pk q a b
unfolding pk
packed_pk = packed_in

-- what holds of the code of each pair holds of each code
each : (q : ℕ) (P : ℕ → Type 0) → ((a b : ℕ) → a < q → b < q → P (pk q a b)) → (x : ℕ) → x < q * q → P x
each q P h x hx =
    ⊎_elim (λ (z : q < 1). let e : q ≡ 0 = omega arith in absurd (let k : x < 0 * 0 = subst (λ y. x < y * y) e hx in omega arith))
    (λ (p : 1 ≤ q). subst P (pk_of q x) (h (x % q) (x / q) (mod-lt x p) ((div-lt_iff_lt-mul p).1 hx)))
    (cases_lt q 1)

module _ {m : Meaning} (L : Lawful m) (n : ℕ) (E : Extends m n) where
  abbrev q : ℕ
  q = m.size

  abbrev S : ℕ → ℕ → ℕ
  S = ext_sum m q

  abbrev X : ℕ → ℕ → ℕ
  X = ext_product m q n

  abbrev low : ℕ → ℕ → ℕ → ℕ → ℕ
  low a b c d = s m (t m a c) (t m n (t m b d))

  abbrev high : ℕ → ℕ → ℕ → ℕ → ℕ
  high a b c d = s m (t m a d) (t m b c)

  sum_pk : (a b c d : ℕ) → a < q → b < q → c < q → d < q → S (pk q a b) (pk q c d) ≡ pk q (s m a c) (s m b d)
  sum_pk a b c d ha hb hc hd =
      sum_in m q _ _ (pk_low q a b ha hb) (pk_low q c d hc hd)
      ∙ simp (pk_mod q a b ha, pk_mod q c d hc, pk_div q a b ha, pk_div q c d hc, s_at L a c ha hc, s_at L b d hb hd)
      (packed_pk q (s m a c) (s m b d) (s_low L a c) (s_low L b d))

  opposite_pk : (a b : ℕ) → a < q → b < q → ext_opposite m q (pk q a b) ≡ pk q (o m a) (o m b)
  opposite_pk a b ha hb =
      opposite_in m q _ (pk_low q a b ha hb)
      ∙ simp (pk_mod q a b ha, pk_div q a b ha, o_at L a ha, o_at L b hb) (packed_pk q (o m a) (o m b) (o_low L a) (o_low L b))

  product_pk : (a b c d : ℕ) → a < q → b < q → c < q → d < q → X (pk q a b) (pk q c d) ≡ pk q (low a b c d) (high a b c d)
  product_pk a b c d ha hb hc hd =
      product_in m q n _ _ (pk_low q a b ha hb) (pk_low q c d hc hd)
      ∙ simp (pk_mod q a b ha, pk_mod q c d hc, pk_div q a b ha, pk_div q c d hc, t_at L a c ha hc, t_at L b d hb hd, t_at L a d ha hd, t_at L b c hb hc, t_at L n (t m b d) E.code (t_low L b d), s_at L (t m a c) (t m n (t m b d)) (t_low L a c) (t_low L n (t m b d)), s_at L (t m a d) (t m b c) (t_low L a d) (t_low L b c))
      (packed_pk q (low a b c d) (high a b c d) (s_low L _ _) (s_low L _ _))

  sum_closed : (x y : ℕ) → x < q * q → y < q * q → S x y < q * q
  sum_closed x y hx hy = each q (λ u. S u y < q * q) (λ a b ha hb. each q (λ v. S (pk q a b) v < q * q)
      (λ c d hc hd. rw (sum_pk a b c d ha hb hc hd) (pk_low q _ _ (s_low L a c) (s_low L b d))) y hy) x hx

  product_closed : (x y : ℕ) → x < q * q → y < q * q → X x y < q * q
  product_closed x y hx hy = each q (λ u. X u y < q * q) (λ a b ha hb. each q (λ v. X (pk q a b) v < q * q)
      (λ c d hc hd. rw (product_pk a b c d ha hb hc hd) (pk_low q _ _ (s_low L _ _) (s_low L _ _))) y hy) x hx

  sum_comm : (x y : ℕ) → x < q * q → y < q * q → S x y ≡ S y x
  sum_comm x y hx hy = each q (λ u. S u y ≡ S y u) (λ a b ha hb. each q (λ v. S (pk q a b) v ≡ S v (pk q a b))
      (λ c d hc hd. sum_pk a b c d ha hb hc hd ∙ ap (λ z. pk q z (s m b d)) (s_comm L a c) ∙ ap (pk q (s m c a)) (s_comm L b d) ∙ sym (sum_pk c d a b hc hd ha hb)) y hy) x hx

  product_comm : (x y : ℕ) → x < q * q → y < q * q → X x y ≡ X y x
  product_comm x y hx hy = each q (λ u. X u y ≡ X y u) (λ a b ha hb. each q (λ v. X (pk q a b) v ≡ X v (pk q a b))
      (λ c d hc hd. product_pk a b c d ha hb hc hd
      ∙ ap (λ z. pk q z (high a b c d)) (let e : low a b c d ≡ low c d a b = simp (t_comm L a c, t_comm L b d) in e)
      ∙ ap (pk q (low c d a b)) (let e : high a b c d ≡ high c d a b = s_comm L _ _ ∙ ap (λ z. s m z (t m a d)) (t_comm L b c) ∙ ap (s m (t m c b)) (t_comm L a d) in e)
      ∙ sym (product_pk c d a b hc hd ha hb)) y hy) x hx

  sum_assoc : (x y z : ℕ) → x < q * q → y < q * q → z < q * q → S (S x y) z ≡ S x (S y z)
  sum_assoc x y z hx hy hz = each q (λ u. S (S u y) z ≡ S u (S y z)) (λ a b ha hb. each q (λ v. S (S (pk q a b) v) z ≡ S (pk q a b) (S v z))
      (λ c d hc hd. each q (λ w. S (S (pk q a b) (pk q c d)) w ≡ S (pk q a b) (S (pk q c d) w))
      (λ e f he hf. ap (λ u. S u (pk q e f)) (sum_pk a b c d ha hb hc hd) ∙ sum_pk _ _ e f (s_low L a c) (s_low L b d) he hf
      ∙ ap (λ u. pk q u (s m (s m b d) f)) (s_assoc L a c e) ∙ ap (pk q (s m a (s m c e))) (s_assoc L b d f)
      ∙ sym (ap (S (pk q a b)) (sum_pk c d e f hc hd he hf) ∙ sum_pk a b _ _ ha hb (s_low L c e) (s_low L d f))) z hz) y hy) x hx

  product_assoc : (x y z : ℕ) → x < q * q → y < q * q → z < q * q → X (X x y) z ≡ X x (X y z)
  product_assoc x y z hx hy hz = each q (λ u. X (X u y) z ≡ X u (X y z)) (λ a b ha hb. each q (λ v. X (X (pk q a b) v) z ≡ X (pk q a b) (X v z))
      (λ c d hc hd. each q (λ w. X (X (pk q a b) (pk q c d)) w ≡ X (pk q a b) (X (pk q c d) w))
      (λ e f he hf. ap (λ u. X u (pk q e f)) (product_pk a b c d ha hb hc hd) ∙ product_pk _ _ e f (s_low L _ _) (s_low L _ _) he hf
      ∙ ap (λ u. pk q u (high (low a b c d) (high a b c d) e f)) (low_assoc L n a b c d e f)
      ∙ ap (pk q (low a b (low c d e f) (high c d e f))) (high_assoc L n a b c d e f)
      ∙ sym (ap (X (pk q a b)) (product_pk c d e f hc hd he hf) ∙ product_pk a b _ _ ha hb (s_low L _ _) (s_low L _ _))) z hz) y hy) x hx

  distributes : (x y z : ℕ) → x < q * q → y < q * q → z < q * q → X x (S y z) ≡ S (X x y) (X x z)
  distributes x y z hx hy hz = each q (λ u. X u (S y z) ≡ S (X u y) (X u z)) (λ a b ha hb. each q (λ v. X (pk q a b) (S v z) ≡ S (X (pk q a b) v) (X (pk q a b) z))
      (λ c d hc hd. each q (λ w. X (pk q a b) (S (pk q c d) w) ≡ S (X (pk q a b) (pk q c d)) (X (pk q a b) w))
      (λ e f he hf. ap (X (pk q a b)) (sum_pk c d e f hc hd he hf) ∙ product_pk a b _ _ ha hb (s_low L c e) (s_low L d f)
      ∙ ap (λ u. pk q u (high a b (s m c e) (s m d f)))
      (let k : low a b (s m c e) (s m d f) ≡ s m (low a b c d) (low a b e f) = simp (t_s L, s_assoc L, s_left L) in k)
      ∙ ap (pk q (s m (low a b c d) (low a b e f)))
      (let k : high a b (s m c e) (s m d f) ≡ s m (high a b c d) (high a b e f) = simp (t_s L, s_assoc L, s_left L) in k)
      ∙ sym (ap (λ u. S u (X (pk q a b) (pk q e f))) (product_pk a b c d ha hb hc hd) ∙ ap (S (pk q (low a b c d) (high a b c d))) (product_pk a b e f ha hb he hf)
      ∙ sum_pk _ _ _ _ (s_low L _ _) (s_low L _ _) (s_low L _ _) (s_low L _ _))) z hz) y hy) x hx

  sum_zero : (x : ℕ) → x < q * q → S x 0 ≡ x
  sum_zero x hx = each q (λ u. S u 0 ≡ u) (λ a b ha hb.
      ap (S (pk q a b)) (sym (pk_zero q)) ∙ sum_pk a b 0 0 ha hb (pos L) (pos L)
      ∙ ap (λ u. pk q u (s m b 0)) (s_zero L a ha) ∙ ap (pk q a) (s_zero L b hb)) x hx

  opposite_closed : (x : ℕ) → x < q * q → ext_opposite m q x < q * q
  opposite_closed x hx = each q (λ u. ext_opposite m q u < q * q) (λ a b ha hb. rw (opposite_pk a b ha hb) (pk_low q _ _ (o_low L a) (o_low L b))) x hx

  sum_opposite : (x : ℕ) → x < q * q → S x (ext_opposite m q x) ≡ 0
  sum_opposite x hx = each q (λ u. S u (ext_opposite m q u) ≡ 0) (λ a b ha hb.
      ap (S (pk q a b)) (opposite_pk a b ha hb) ∙ sum_pk a b _ _ ha hb (o_low L a) (o_low L b)
      ∙ ap (λ u. pk q u (s m b (o m b))) (s_o L a ha) ∙ ap (pk q 0) (s_o L b hb) ∙ pk_zero q) x hx

  product_one : (x : ℕ) → x < q * q → X x 1 ≡ x
  product_one x hx = each q (λ u. X u 1 ≡ u) (λ a b ha hb.
      ap (X (pk q a b)) (sym (pk_one q)) ∙ product_pk a b 1 0 ha hb (one L) (pos L)
      ∙ ap (λ u. pk q u (high a b 1 0))
      (ap (λ u. s m u (t m n (t m b 0))) (t_one L a ha) ∙ ap (λ u. s m a (t m n u)) (t_zero L b) ∙ ap (s m a) (t_zero L n) ∙ s_zero L a ha)
      ∙ ap (pk q a) (ap (λ u. s m u (t m b 1)) (t_zero L a) ∙ ap (s m 0) (t_one L b hb) ∙ zero_s L b hb)) x hx

  odd : S 1 1 ≡ 0 → ⊥
  odd e = L.odd (s_at L 1 1 (one L) (one L) ∙ pk_none q (s m 1 1) (s m 0 0)
      (sym (sum_pk 1 0 1 0 (one L) (pos L) (one L) (pos L)) ∙ ap (λ u. S u u) (pk_one q) ∙ e))

  -- an inverse in the base
  inverse_of : (a : ℕ) → 0 < a → a < q → (i : ℕ) × (m.inverse a ≡ Some i) × (i < q) × (t m a i ≡ 1)
  inverse_of a pa ha = let x = L.inverse_there a pa ha in (x.0, x.1, x.2, sym (t_at L a x.0 ha x.2) ∙ x.3)

  -- a square is 0 only at 0
  square_zero : (a : ℕ) → a < q → t m a a ≡ 0 → a ≡ 0
  square_zero a ha e =
      ⊎_elim (λ (z : a < 1). omega arith)
      (λ (p : 1 ≤ a).
      let i = inverse_of a p ha in
      sym (t_one L a ha) ∙ ap (t m a) (sym i.3) ∙ sym (t_assoc L a a i.0) ∙ ap (λ u. t m u i.0) e ∙ t_comm L 0 i.0 ∙ t_zero L i.0)
      (cases_lt a 1)

  norm : ℕ → ℕ → ℕ
  norm a b = s m (t m a a) (o m (t m n (t m b b)))

  norm_at : (a b : ℕ) → a < q → b < q → ext_norm m n a b ≡ norm a b
  unfolding norm
  norm_at a b ha hb =
      cc (t_at L a a ha ha, t_at L b b hb hb, t_at L n (t m b b) E.code (t_low L b b), o_at L (t m n (t m b b)) (t_low L n (t m b b)), s_at L (t m a a) (o m (t m n (t m b b))) (t_low L a a) (o_low L _))

  o_twice : (a : ℕ) → a < q → o m (o m a) ≡ a
  o_twice a ha = sym (s_cancel L (o m a) a (o_low L a) ha (s_comm L (o m a) a ∙ s_o L a ha))

  -- where the norm is 0, the two squares are equal
  norm_zero : (a b : ℕ) → norm a b ≡ 0 → t m a a ≡ t m n (t m b b)
  unfolding norm
  norm_zero a b e =
      s_cancel L (o m (t m n (t m b b))) (t m a a) (o_low L _) (t_low L a a) (s_comm L _ _ ∙ e) ∙ o_twice (t m n (t m b b)) (t_low L n _)

  -- so b is 0, since n has no root
  norm_zero_b : (a b : ℕ) → a < q → b < q → norm a b ≡ 0 → b ≡ 0
  norm_zero_b a b ha hb e =
      ⊎_elim (λ (z : b < 1). omega arith)
      (λ (p : 1 ≤ b).
      let i = inverse_of b p hb in
      let j : ℕ = i.0 in
      let root : t m (t m a j) (t m a j) ≡ t m (t m a a) (t m j j) = simp (t_assoc L, t_left L) in
      let regroup : t m (t m n (t m b b)) (t m j j) ≡ t m n (t m (t m b j) (t m b j)) = simp (t_assoc L, t_left L) in
      let k : t m (t m a j) (t m a j) ≡ n =
      root ∙ ap (λ u. t m u (t m j j)) (norm_zero a b e) ∙ regroup ∙ ap (λ u. t m n (t m u u)) i.3
      ∙ ap (t m n) (t_one L 1 (one L)) ∙ t_one L n E.code in
      absurd (E.no_root (t m a j) (t_low L a j) (t_at L (t m a j) (t m a j) (t_low L a j) (t_low L a j) ∙ k)))
      (cases_lt b 1)

  norm_zero_a : (a b : ℕ) → a < q → b < q → norm a b ≡ 0 → a ≡ 0
  norm_zero_a a b ha hb e =
      let z : b ≡ 0 = norm_zero_b a b ha hb e in
      square_zero a ha (norm_zero a b e ∙ ap (λ u. t m n (t m u u)) z ∙ ap (t m n) (t_zero L 0) ∙ t_zero L n)

  inverse_pk : (a b : ℕ) → a < q → b < q → ext_inverse m q n (pk q a b) ≡ over_norm m q a b (m.inverse (norm a b))
  inverse_pk a b ha hb =
      inverse_in m q n (pk q a b) (pk_low q a b ha hb)
      ∙ simp (pk_mod q a b ha, pk_div q a b ha) (ap (λ u. over_norm m q a b (m.inverse u)) (norm_at a b ha hb))

  found_low : (a b i : ℕ) → a < q → b < q → t m (norm a b) i ≡ 1 → low a b (t m a i) (t m (o m b) i) ≡ 1
  unfolding norm
  found_low a b i ha hb e =
      let minus : t m n (t m b (t m (o m b) i)) ≡ t m (o m (t m n (t m b b))) i =
      ap (t m n) (sym (t_assoc L b (o m b) i)) ∙ ap (λ u. t m n (t m u i)) (t_o L b b hb) ∙ sym (t_assoc L n (o m (t m b b)) i)
      ∙ ap (λ u. t m u i) (t_o L n (t m b b) (t_low L b b)) in
      ap (s m (t m a (t m a i))) minus ∙ ap (λ u. s m u (t m (o m (t m n (t m b b))) i)) (sym (t_assoc L a a i)) ∙ sym (s_t L (t m a a) _ i) ∙ e

  found_high : (a b i : ℕ) → b < q → high a b (t m a i) (t m (o m b) i) ≡ 0
  found_high a b i hb =
      let first : t m a (t m (o m b) i) ≡ o m (t m b (t m a i)) =
      ap (t m a) (t_comm L (o m b) i) ∙ sym (t_assoc L a i (o m b)) ∙ t_o L (t m a i) b hb ∙ ap (o m) (t_comm L (t m a i) b) in
      ap (λ u. s m u (t m b (t m a i))) first ∙ s_comm L _ _ ∙ s_o L _ (t_low L _ _)

  inverse_at : (a b : ℕ) → a < q → b < q → 0 < pk q a b → (y : ℕ) × (ext_inverse m q n (pk q a b) ≡ Some y) × (y < q * q) × (X (pk q a b) y ≡ 1)
  unfolding norm
  inverse_at a b ha hb p =
      let N : ℕ = norm a b in
      let some : 0 < N = ⊎_elim
      (λ (z : N < 1).
      let e : norm a b ≡ 0 = omega arith in
      let zero : pk q a b ≡ 0 = ap (λ u. pk q u b) (norm_zero_a a b ha hb e) ∙ ap (pk q 0) (norm_zero_b a b ha hb e) ∙ pk_zero q in absurd (omega arith))
      (λ (z : 1 ≤ N). z) (cases_lt N 1) in
      let i = inverse_of N some (s_low L _ _) in
      let j : ℕ = i.0 in
      let y0 : ℕ = t m a j in
      let y1 : ℕ = t m (o m b) j in
      let is : over_norm m q a b (Some j) ≡ Some (pk q y0 y1) =
      ap Some (ap (λ u. packed q u (m.product (m.opposite b) j)) (t_at L a j ha i.2)
      ∙ ap (λ u. packed q y0 (m.product u j)) (o_at L b hb) ∙ ap (packed q y0) (t_at L (o m b) j (o_low L b) i.2)
      ∙ packed_pk q y0 y1 (t_low L _ _) (t_low L _ _)) in (
        pk q y0 y1,
        inverse_pk a b ha hb ∙ ap (over_norm m q a b) i.1 ∙ is,
        pk_low q y0 y1 (t_low L _ _) (t_low L _ _),
        product_pk a b y0 y1 ha hb (t_low L _ _) (t_low L _ _)
            ∙ ap (λ u. pk q u (high a b y0 y1)) (found_low a b j ha hb i.3) ∙ ap (pk q 1) (found_high a b j hb) ∙ pk_one q,
      )

  inverse_there : (x : ℕ) → 0 < x → x < q * q → (y : ℕ) × (ext_inverse m q n x ≡ Some y) × (y < q * q) × (X x y ≡ 1)
  inverse_there x px hx =
      each q (λ u. 0 < u → (y : ℕ) × (ext_inverse m q n u ≡ Some y) × (y < q * q) × (X u y ≡ 1)) inverse_at x hx px

  inverse_zero : ext_inverse m q n 0 ≡ None
  unfolding norm
  inverse_zero =
      let nothing : norm 0 0 ≡ 0 =
      ap (λ u. s m u (o m (t m n u))) (t_zero L 0) ∙ ap (λ u. s m 0 (o m u)) (t_zero L n) ∙ s_o L 0 (pos L) in
      ap (ext_inverse m q n) (sym (pk_zero q)) ∙ inverse_pk 0 0 (pos L) (pos L) ∙ ap (λ u. over_norm m q 0 0 (m.inverse u)) nothing
      ∙ ap (over_norm m q 0 0) L.inverse_zero

  pub extension_lawful : Lawful (extended m n)
  extension_lawful = record {
    low = let h : 3 * 3 ≤ q * q = mul-le-mul L.low L.low in omega arith;
    high = E.small;
    sum_closed = sum_closed;
    opposite_closed = opposite_closed;
    product_closed = product_closed;
    sum_assoc = sum_assoc;
    sum_comm = sum_comm;
    sum_zero = sum_zero;
    sum_opposite = sum_opposite;
    product_assoc = product_assoc;
    product_comm = product_comm;
    product_one = product_one;
    distributes = distributes;
    inverse_zero = inverse_zero;
    inverse_there = inverse_there;
    odd = odd;
    sum_out = sum_out m q;
    opposite_out = opposite_out m q;
    product_out = product_out m q n;
    inverse_out = inverse_out m q n;
  }
