-- What the laws of a field give, with no condition where the operations are taken modulo the size.
use Rattle.std.proofs.Common.{◌≡◌, ℕ, ◌%◌, ◌<◌, sym, ap, ◌∙◌, mod-lt, mod-eq_of_lt, arith}
use Rattle.field.specs.Meaning.{Meaning, Lawful}
use Rattle.field.proofs.Clamped.{on, on_low, on_at, on_comm, on_assoc, on_distributes}

-- the sum
unfoldable pub s : Meaning → ℕ → ℕ → ℕ
s m = on m.size m.sum

-- the product
unfoldable pub t : Meaning → ℕ → ℕ → ℕ
t m = on m.size m.product

-- the opposite
unfoldable pub o : Meaning → ℕ → ℕ
o m a = m.opposite (a % m.size)

module _ {m : Meaning} (L : Lawful m) where
  pub pos : 0 < m.size
  pos = omega (arith, L.low)

  pub one : 1 < m.size
  one = omega (arith, L.low)

  pub s_low : (a b : ℕ) → s m a b < m.size
  unfolding s
  s_low = on_low m.size pos m.sum L.sum_closed

  pub t_low : (a b : ℕ) → t m a b < m.size
  unfolding t
  t_low = on_low m.size pos m.product L.product_closed

  pub o_low : (a : ℕ) → o m a < m.size
  unfolding o
  o_low a = L.opposite_closed (a % m.size) (mod-lt a pos)

  pub s_at : (a b : ℕ) → a < m.size → b < m.size → m.sum a b ≡ s m a b
  unfolding s
  s_at = on_at m.size pos m.sum L.sum_closed

  pub t_at : (a b : ℕ) → a < m.size → b < m.size → m.product a b ≡ t m a b
  unfolding t
  t_at = on_at m.size pos m.product L.product_closed

  pub o_at : (a : ℕ) → a < m.size → m.opposite a ≡ o m a
  unfolding o
  o_at a h = sym (ap m.opposite (mod-eq_of_lt h))

  pub s_comm : (a b : ℕ) → s m a b ≡ s m b a
  unfolding s
  s_comm = on_comm m.size pos m.sum L.sum_closed L.sum_comm

  pub t_comm : (a b : ℕ) → t m a b ≡ t m b a
  unfolding t
  t_comm = on_comm m.size pos m.product L.product_closed L.product_comm

  pub s_assoc : (a b c : ℕ) → s m (s m a b) c ≡ s m a (s m b c)
  unfolding s
  s_assoc = on_assoc m.size pos m.sum L.sum_closed L.sum_assoc

  pub t_assoc : (a b c : ℕ) → t m (t m a b) c ≡ t m a (t m b c)
  unfolding t
  t_assoc = on_assoc m.size pos m.product L.product_closed L.product_assoc

  pub s_left : (a b c : ℕ) → s m a (s m b c) ≡ s m b (s m a c)
  s_left a b c = sym (s_assoc a b c) ∙ ap (λ x. s m x c) (s_comm a b) ∙ s_assoc b a c

  pub t_left : (a b c : ℕ) → t m a (t m b c) ≡ t m b (t m a c)
  t_left a b c = sym (t_assoc a b c) ∙ ap (λ x. t m x c) (t_comm a b) ∙ t_assoc b a c

  pub t_s : (a b c : ℕ) → t m a (s m b c) ≡ s m (t m a b) (t m a c)
  unfolding s t
  t_s = on_distributes m.size pos m.sum m.product L.sum_closed L.product_closed L.distributes

  pub s_t : (a b c : ℕ) → t m (s m a b) c ≡ s m (t m a c) (t m b c)
  s_t a b c = t_comm (s m a b) c ∙ t_s c a b ∙ ap (λ x. s m x (t m c b)) (t_comm c a) ∙ ap (s m (t m a c)) (t_comm c b)

  pub s_zero : (a : ℕ) → a < m.size → s m a 0 ≡ a
  s_zero a h = sym (s_at a 0 h pos) ∙ L.sum_zero a h

  pub zero_s : (a : ℕ) → a < m.size → s m 0 a ≡ a
  zero_s a h = s_comm 0 a ∙ s_zero a h

  pub t_one : (a : ℕ) → a < m.size → t m a 1 ≡ a
  t_one a h = sym (t_at a 1 h one) ∙ L.product_one a h

  pub s_o : (a : ℕ) → a < m.size → s m a (o m a) ≡ 0
  s_o a h = sym (s_at a (o m a) h (o_low a)) ∙ ap (m.sum a) (sym (o_at a h)) ∙ L.sum_opposite a h

  pub s_cancel : (a b : ℕ) → a < m.size → b < m.size → s m a b ≡ 0 → b ≡ o m a
  s_cancel a b ha hb e =
      sym (s_zero b hb) ∙ ap (s m b) (sym (s_o a ha)) ∙ sym (s_assoc b a (o m a)) ∙ ap (λ x. s m x (o m a)) (s_comm b a ∙ e) ∙ zero_s (o m a) (o_low a)

  pub t_zero : (a : ℕ) → t m a 0 ≡ 0
  t_zero a =
      let z : ℕ = t m a 0 in
      let hz : z < m.size = t_low a 0 in
      let twice : z ≡ s m z z = ap (t m a) (sym (s_zero 0 pos)) ∙ t_s a 0 0 in
      sym (s_zero z hz) ∙ ap (s m z) (sym (s_o z hz)) ∙ sym (s_assoc z z (o m z)) ∙ ap (λ x. s m x (o m z)) (sym twice) ∙ s_o z hz

  pub t_o : (a b : ℕ) → b < m.size → t m a (o m b) ≡ o m (t m a b)
  t_o a b h = s_cancel (t m a b) (t m a (o m b)) (t_low a b) (t_low a (o m b)) (sym (t_s a b (o m b)) ∙ ap (t m a) (s_o b h) ∙ t_zero a)

  -- the parts of a product of three pairs
  pub low_assoc : (n a b c d e f : ℕ) →
      s m (t m (s m (t m a c) (t m n (t m b d))) e) (t m n (t m (s m (t m a d) (t m b c)) f))
      ≡ s m (t m a (s m (t m c e) (t m n (t m d f)))) (t m n (t m b (s m (t m c f) (t m d e))))
  low_assoc n a b c d e f = simp (t_s, s_t, t_assoc, t_left, s_assoc, s_comm, s_left)

  pub high_assoc : (n a b c d e f : ℕ) →
      s m (t m (s m (t m a c) (t m n (t m b d))) f) (t m (s m (t m a d) (t m b c)) e)
      ≡ s m (t m a (s m (t m c f) (t m d e))) (t m b (s m (t m c e) (t m n (t m d f))))
  high_assoc n a b c d e f = simp (t_s, s_t, t_assoc, t_left, s_assoc, s_comm, s_left)
