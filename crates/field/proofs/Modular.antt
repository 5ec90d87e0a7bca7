-- Sums and products modulo m.
use Rattle.std.proofs.Common.{◌≡◌, ℕ, ◌+◌, ◌-◌, ◌*◌, ◌/◌, ◌%◌, ◌<◌, ◌≤◌, sym, ap, ◌∙◌, mul_assoc, mul_comm, add-mul, mul-add, div-le_self, mul_left_comm, arith}
use native.Mathlib.Nat.{div-add-mod, mul-add-mod_self_left, mod-add-mod, add-mod-mod}

pub mod_mul_left : (a b m : ℕ) → (a % m * b) % m ≡ (a * b) % m
mod_mul_left a b m =
    let split : m * (a / m * b) + a % m * b ≡ a * b =
    ap (λ x. x + a % m * b) (sym (mul_assoc m (a / m) b)) ∙ sym (add-mul (m * (a / m)) (a % m) b) ∙ ap (λ x. x * b) (div-add-mod a m) in
    sym (mul-add-mod_self_left m (a / m * b) (a % m * b)) ∙ ap (λ x. x % m) split

pub mod_mul_right : (a b m : ℕ) → (a * (b % m)) % m ≡ (a * b) % m
mod_mul_right a b m = ap (λ x. x % m) (mul_comm a (b % m)) ∙ mod_mul_left b a m ∙ ap (λ x. x % m) (mul_comm b a)

pub mod_product_assoc : (a b c m : ℕ) → ((a * b) % m * c) % m ≡ (a * ((b * c) % m)) % m
mod_product_assoc a b c m = mod_mul_left (a * b) c m ∙ ap (λ x. x % m) (mul_assoc a b c) ∙ sym (mod_mul_right a (b * c) m)

pub mod_sum_assoc : (a b c m : ℕ) → ((a + b) % m + c) % m ≡ (a + (b + c) % m) % m
mod_sum_assoc a b c m = mod-add-mod (a + b) m c ∙ ap (λ x. x % m) (omega arith) ∙ sym (add-mod-mod a (b + c) m)

pub mod_distributes : (a b c m : ℕ) → (a * ((b + c) % m)) % m ≡ ((a * b) % m + (a * c) % m) % m
mod_distributes a b c m =
    mod_mul_right a (b + c) m ∙ ap (λ x. x % m) (mul-add a b c)
    ∙ sym (mod-add-mod (a * b) m (a * c)) ∙ sym (add-mod-mod ((a * b) % m) (a * c) m)

-- two inverses of one number are equal
pub inverse_once : (a b c m : ℕ) → b < m → c < m → (a * b) % m ≡ 1 → (a * c) % m ≡ 1 → b % m ≡ c % m
inverse_once a b c m hb hc p q =
    let one : (n : ℕ) → n * 1 ≡ n = λ n. omega arith in
    sym (ap (λ x. x % m) (one b)) ∙ sym (ap (λ x. (b * x) % m) q) ∙ mod_mul_right b (a * c) m
    ∙ ap (λ x. x % m) (let e : b * (a * c) ≡ c * (a * b) = simp (mul_comm, mul_left_comm) in e)
    ∙ sym (mod_mul_right c (a * b) m) ∙ ap (λ x. (c * x) % m) p ∙ ap (λ x. x % m) (one c)

-- a step of the search for the inverse: if a times f is r, then a times (m - m / r) times f is m % r
pub step : (a f r m : ℕ) → 0 < r → r < m → (a * f) % m ≡ r → (a * (((m - m / r) * f) % m)) % m ≡ m % r % m
step a f r m h hm p =
    let q : ℕ = m / r in
    let d : ℕ = m - m / r in
    let e1 : (a * ((d * f) % m)) % m ≡ (a * (d * f)) % m = mod_mul_right a (d * f) m in
    let e2 : a * (d * f) ≡ d * (a * f) = mul_left_comm a d f in
    let e3 : (d * (a * f)) % m ≡ (d * r) % m = sym (mod_mul_right d (a * f) m) ∙ ap (λ x. (d * x) % m) p in
    let whole : d + q ≡ m = let l : m / r ≤ m = div-le_self m r in omega arith in
    let e4 : d * r + q * r ≡ m * r = sym (add-mul d q r) ∙ ap (λ x. x * r) whole in
    let e5 : m * r ≡ m * (r - 1) + m = let s : r - 1 + 1 ≡ r = omega arith in sym (ap (λ x. m * x) s) ∙ mul-add m (r - 1) 1 ∙ (omega arith) in
    let e6 : q * r + m % r ≡ m = ap (λ x. x + m % r) (mul_comm q r) ∙ div-add-mod m r in
    let e7 : d * r ≡ m * (r - 1) + m % r = omega arith in
    e1 ∙ ap (λ x. x % m) e2 ∙ e3 ∙ ap (λ x. x % m) e7 ∙ mul-add-mod_self_left m (r - 1) (m % r)
