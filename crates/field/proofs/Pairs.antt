-- The operations of an extension at codes, and elsewhere.
use Rattle.std.proofs.Common.{◌≡◌, ℕ, ◌+◌, ◌*◌, ◌/◌, ◌%◌, ◌<◌, ◌≤◌, None, refl, arith}
use Rattle.std.proofs.lemmas.Bool.{lt-ltb, le-ltb}
use Rattle.std.proofs.lemmas.Bool.Decides.{nat_tests}
use Rattle.field.specs.Meaning.{Meaning}
use Rattle.field.specs.Extensions.{packed, ext_sum, ext_opposite, ext_product, ext_inverse, ext_norm, over_norm}

pub packed_in : (q a b : ℕ) → a < q → b < q → packed q a b ≡ a + q * b
unfolding packed
packed_in q a b ha hb = rw (lt-ltb a q ha, lt-ltb b q hb) refl

pub sum_in : (m : Meaning) (q x y : ℕ) → x < q * q → y < q * q → ext_sum m q x y ≡ packed q (m.sum (x % q) (y % q)) (m.sum (x / q) (y / q))
unfolding ext_sum
sum_in m q x y hx hy = rw (lt-ltb x (q * q) hx, lt-ltb y (q * q) hy) refl

pub sum_out : (m : Meaning) (q x y : ℕ) → (q * q ≤ x → ext_sum m q x y ≡ 0) × (q * q ≤ y → ext_sum m q x y ≡ 0)
unfolding ext_sum
sum_out m q x y = (λ h. grind (arith, nat_tests), λ h. grind (arith, nat_tests))

pub opposite_in : (m : Meaning) (q x : ℕ) → x < q * q → ext_opposite m q x ≡ packed q (m.opposite (x % q)) (m.opposite (x / q))
unfolding ext_opposite
opposite_in m q x hx = rw (lt-ltb x (q * q) hx) refl

pub opposite_out : (m : Meaning) (q x : ℕ) → q * q ≤ x → ext_opposite m q x ≡ 0
unfolding ext_opposite
opposite_out m q x h = grind (arith, nat_tests)

pub product_in : (m : Meaning) (q n x y : ℕ) → x < q * q → y < q * q →
    ext_product m q n x y ≡ packed q (m.sum (m.product (x % q) (y % q)) (m.product n (m.product (x / q) (y / q)))) (m.sum (m.product (x % q) (y / q)) (m.product (x / q) (y % q)))
unfolding ext_product
product_in m q n x y hx hy = rw (lt-ltb x (q * q) hx, lt-ltb y (q * q) hy) refl

pub product_out : (m : Meaning) (q n x y : ℕ) → (q * q ≤ x → ext_product m q n x y ≡ 0) × (q * q ≤ y → ext_product m q n x y ≡ 0)
unfolding ext_product
product_out m q n x y = (λ h. grind (arith, nat_tests), λ h. grind (arith, nat_tests))

pub inverse_in : (m : Meaning) (q n x : ℕ) → x < q * q → ext_inverse m q n x ≡ over_norm m q (x % q) (x / q) (m.inverse (ext_norm m n (x % q) (x / q)))
unfolding ext_inverse
inverse_in m q n x hx = rw (lt-ltb x (q * q) hx) refl

pub inverse_out : (m : Meaning) (q n x : ℕ) → q * q ≤ x → ext_inverse m q n x ≡ None
unfolding ext_inverse
inverse_out m q n x h = rw (le-ltb x (q * q) h) refl
