-- What the theory of places asks of the polynomials R over a field C: a commutative ring with lengths
-- (degree + 1; 0 for the zero polynomial), coefficients, division with remainder, units, and a derivative.
use mathlib.Core.Path.{◌≡◌}
use mathlib.Core.Logic.{◌≢◌}
use Prim.Native.Nat.{ℕ, ◌+◌, ◌≤◌, ◌<◌}
use Rattle.ring.proofs.Ring.{CommRing}

pub record PolyRing (C R : Type 0) : Type 0 where
  pub k : CommRing C
  pub r : CommRing R
  pub c_zero? : (a : C) → Dec (a ≡ k.𝟘)
  pub c_domain : (a b : C) → a ≢ k.𝟘 → b ≢ k.𝟘 → k.◌⊗◌ a b ≢ k.𝟘
  pub c_two : k.◌⊕◌ k.𝟙 k.𝟙 ≢ k.𝟘
  pub zero? : (p : R) → Dec (p ≡ r.𝟘)
  pub len : R → ℕ
  pub coef : R → ℕ → C
  pub ext : (p q : R) → ((n : ℕ) → coef p n ≡ coef q n) → p ≡ q
  pub len_zero : len r.𝟘 ≡ 0
  pub zero_len : (p : R) → len p ≡ 0 → p ≡ r.𝟘
  pub len_one : len r.𝟙 ≡ 1
  pub len_add : (p q : R) (n : ℕ) → len p ≤ n → len q ≤ n → len (r.◌⊕◌ p q) ≤ n
  pub len_neg : (p : R) → len (r.⊖◌ p) ≡ len p
  pub len_mul : (p q : R) → p ≢ r.𝟘 → q ≢ r.𝟘 → len (r.◌⊗◌ p q) + 1 ≡ len p + len q
  pub coef_add : (p q : R) (n : ℕ) → coef (r.◌⊕◌ p q) n ≡ k.◌⊕◌ (coef p n) (coef q n)
  pub coef_neg : (p : R) (n : ℕ) → coef (r.⊖◌ p) n ≡ k.⊖◌ (coef p n)
  pub coef_past : (p : R) (n : ℕ) → len p ≤ n → coef p n ≡ k.𝟘
  pub coef_top : (p : R) (n : ℕ) → len p ≡ n + 1 → coef p n ≢ k.𝟘
  pub coef_mul : (p q : R) (n m : ℕ) → len p ≤ n + 1 → len q ≤ m + 1 → coef (r.◌⊗◌ p q) (n + m) ≡ k.◌⊗◌ (coef p n) (coef q m)
  pub unit : (p : R) → len p ≡ 1 → (q : R) × (r.◌⊗◌ p q ≡ r.𝟙)
  pub monic : (p : R) (n : ℕ) → len p ≡ n + 1 → (c : R) × (len c ≡ 1) × (coef (r.◌⊗◌ c p) n ≡ k.𝟙)
  pub divide : (a b : R) → b ≢ r.𝟘 → (q : R) × (s : R) × (a ≡ r.◌⊕◌ (r.◌⊗◌ q b) s) × (len s < len b)
  pub der : R → R
  pub der_add : (p q : R) → der (r.◌⊕◌ p q) ≡ r.◌⊕◌ (der p) (der q)
  pub der_mul : (p q : R) → der (r.◌⊗◌ p q) ≡ r.◌⊕◌ (r.◌⊗◌ (der p) q) (r.◌⊗◌ p (der q))
