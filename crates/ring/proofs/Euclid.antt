-- Over any PolyRing: divisibility, uniqueness of quotient and remainder, greatest common divisors with multipliers, and square
-- factors: what divides D twice divides D and its derivative.
use mathlib.Core.Path.{◌≡◌, sym, ◌∙◌, ap}
use mathlib.Core.Logic.{◌≢◌}
use Rattle.std.proofs.Common.{rules}
use mathlib.Core.List.{[], ◌∷◌}
use Prim.Native.Nat.{ℕ, zero, suc, ◌+◌, ◌-◌, ◌≤◌, ◌<◌}
use native.Mathlib.Omega.{arith}
use Rattle.ring.proofs.Ring.{Divides, sub_self→eq}
use Rattle.ring.proofs.Quote.{quote, auto}
use Rattle.ring.proofs.Hypotheses.{by_hyp, by_hyp₂, by_hyp₃}
use Rattle.ring.proofs.PolyRing.{PolyRing}
use Rattle.ring.proofs.Lengths.{len_pos, len_sub, ⊗-cancel, left_alive, right_alive, alive_one, top_cancel}

module _ {C R : Type 0} (K : PolyRing C R) where
  infixl 60 ◌⊕◌
  infixl 70 ◌⊗◌
  infix 80 ⊖◌
  open K use {r, len, coef}
  open r use {𝟘, 𝟙, ◌⊕◌, ⊖◌, ◌⊗◌}

  -- a divisor is no longer than a multiple that is not 0
  pub divides_len : (p q : R) → Divides r p q → q ≢ 𝟘 → len p ≤ len q
  divides_len p q h hq =
      let both : h.0 ⊗ p ≢ 𝟘 = λ e. hq (h.1 ∙ e) in
      let a = left_alive K h.0 p both in
      omega (arith, K.len_mul h.0 p a (right_alive K h.0 p both), ap len h.1, len_pos K h.0 a)

  pub small_multiple : (p q : R) → Divides r p q → len q < len p → q ≡ 𝟘
  small_multiple p q d h = elim (K.zero? q) [ yes e ↦ e | no ne ↦ (let l = divides_len p q d ne in absurd (omega arith)) ]

  -- the greatest common divisor, with multipliers
  pub record Gcd (a b : R) : Type 0 where
    pub g : R
    pub x : R
    pub y : R
    pub is : g ≡ x ⊗ a ⊕ y ⊗ b
    pub left : Divides r g a
    pub right : Divides r g b

  gcd_zero : (a b : R) → b ≡ 𝟘 → Gcd a b
  gcd_zero a b e = record {
    g = a;
    x = 𝟙;
    y = 𝟘;
    is = auto r (a ∷ b ∷ []) (search quote depth 20) tt;
    left = (𝟙, auto r (a ∷ []) (search quote depth 20) tt);
    right = (𝟘, e ∙ auto r (a ∷ []) (search quote depth 20) tt);
  }

  gcd_next : (a b q s : R) → a ≡ q ⊗ b ⊕ s → Gcd b s → Gcd a b
  gcd_next a b q s e G = record {
    g = G.g;
    x = G.y;
    y = G.x ⊕ ⊖ (G.y ⊗ q);
    is = by_hyp₂ r 𝟙 G.is (⊖ G.y) e (auto r (a ∷ b ∷ q ∷ s ∷ G.g ∷ G.x ∷ G.y ∷ []) (search quote depth 20) tt);
    left = (
      q ⊗ G.left.0 ⊕ G.right.0,
      by_hyp₃ r 𝟙 e q G.left.1 𝟙 G.right.1
          (auto r (a ∷ b ∷ q ∷ s ∷ G.g ∷ G.left.0 ∷ G.right.0 ∷ []) (search quote depth 20) tt),
    );
    right = G.left;
  }

  euclid : (n : ℕ) (a b : R) → len b ≤ n → Gcd a b
  euclid zero a b h = gcd_zero a b (K.zero_len b (omega arith))
  euclid (suc n) a b h = elim (K.zero? b) [
    | yes e ↦ gcd_zero a b e
    | no z ↦ let w = K.divide a b z in gcd_next a b w.0 w.1 w.2 (euclid n b w.1 (omega arith))
  ]

  pub gcd : (a b : R) → Gcd a b
  gcd a b = euclid (len b) a b (omega arith)

  -- three elements whose only common divisors are units give 1
  pub record Coprime (a b c : R) : Type 0 where
    pub x : R
    pub y : R
    pub z : R
    pub is : x ⊗ a ⊕ y ⊗ b ⊕ z ⊗ c ≡ 𝟙

  pub divides_trans : (a b c : R) → Divides r a b → Divides r b c → Divides r a c
  divides_trans a b c h g = (g.0 ⊗ h.0, by_hyp₂ r g.0 h.1 𝟙 g.1 (auto r (a ∷ b ∷ c ∷ h.0 ∷ g.0 ∷ []) (search quote depth 20) tt))

  pub coprime_one : (a b c : R) → ((g : R) → Divides r g a → Divides r g b → Divides r g c → len g ≡ 1) → Coprime a b c
  coprime_one a b c h =
      let G = gcd b c in
      let H = gcd a G.g in
      let e = K.unit H.g (h H.g H.left (divides_trans H.g G.g b H.right G.left) (divides_trans H.g G.g c H.right G.right)) in
      record {
        x = e.0 ⊗ H.x;
        y = e.0 ⊗ H.y ⊗ G.x;
        z = e.0 ⊗ H.y ⊗ G.y;
        is = by_hyp₃ r 𝟙 e.1 (⊖ e.0) H.is (⊖ (e.0 ⊗ H.y)) G.is
            (auto r (a ∷ b ∷ c ∷ G.g ∷ G.x ∷ G.y ∷ H.g ∷ H.x ∷ H.y ∷ e.0 ∷ []) (search quote depth 20) tt);
      }

  -- a common divisor divides every combination
  pub divides_combination : (a b x y c : R) → Divides r c a → Divides r c b → Divides r c (x ⊗ a ⊕ y ⊗ b)
  divides_combination a b x y c h i = (
    x ⊗ h.0 ⊕ y ⊗ i.0,
    by_hyp₂ r x h.1 y i.1
        (auto r (a ∷ b ∷ x ∷ y ∷ c ∷ h.0 ∷ i.0 ∷ []) (search quote depth 20) tt),
  )

  -- a square factor is common to D and its derivative
  pub square_shared : (D g h : R) → D ≡ (g ⊗ g) ⊗ h → Divides r g D × Divides r g (K.der D)
  square_shared = search rules

  pub no_square : (D : R) → ((g : R) → Divides r g D → Divides r g (K.der D) → len g ≡ 1) → (g h : R) → D ≡ (g ⊗ g) ⊗ h → len g ≡ 1
  no_square D c g h e = let s = square_shared D g h e in c g s.0 s.1

  -- where 1 is a combination of a and b, every common divisor has length 1
  pub common_len : (a b x y g : R) → x ⊗ a ⊕ y ⊗ b ≡ 𝟙 → Divides r g a → Divides r g b → len g ≡ 1
  common_len a b x y g e h i =
      let c = divides_combination a b x y g h i in
      let d : Divides r g 𝟙 = (c.0, sym e ∙ c.1) in
      let n : g ≢ 𝟘 = right_alive K d.0 g (λ z. alive_one K (d.1 ∙ z)) in
      omega (arith, divides_len g 𝟙 d (alive_one K), len_pos K g n, K.len_one)

  -- a remainder is one
  pub remainder_unique : (Q k s k' s' : R) → k ⊗ Q ⊕ s ≡ k' ⊗ Q ⊕ s' → len s < len Q → len s' < len Q → s ≡ s'
  remainder_unique Q k s k' s' e h g =
      sub_self→eq r s s' (small_multiple Q (s ⊕ ⊖ s')
      (k' ⊕ ⊖ k, by_hyp r 𝟙 e (auto r (Q ∷ k ∷ s ∷ k' ∷ s' ∷ []) (search quote depth 20) tt))
      (let l = len_sub K s s' (len Q - 1) (omega arith) (omega arith) in omega arith))

  -- and so is the quotient
  pub quotient_unique : (Q k s k' s' : R) → Q ≢ 𝟘 → k ⊗ Q ⊕ s ≡ k' ⊗ Q ⊕ s' → len s < len Q → len s' < len Q → k ≡ k'
  quotient_unique Q k s k' s' n e h g = ⊗-cancel K Q k k' n
      (by_hyp₂ r 𝟙 e (⊖ 𝟙) (remainder_unique Q k s k' s' e h g) (auto r (Q ∷ k ∷ s ∷ k' ∷ s' ∷ []) (search quote depth 20) tt))

  abbrev pub Monic : R → Type 0
  Monic p = (n : ℕ) → len p ≡ n + 1 → coef p n ≡ K.k.𝟙

  -- monic polynomials that divide each other are equal
  pub monic_unique : (p q : R) → p ≢ 𝟘 → q ≢ 𝟘 → Monic p → Monic q → Divides r p q → Divides r q p → p ≡ q
  monic_unique p q hp hq mp mq d e =
      let n : ℕ = len q - 1 in
      let x = divides_len p q d hq in
      let y = divides_len q p e hp in
      let z = len_pos K q hq in
      let l = top_cancel K p q n (omega arith) (omega arith) (mp n (omega arith) ∙ sym (mq n (omega arith))) in
      sub_self→eq r p q (small_multiple q (p ⊕ ⊖ q)
      (e.0 ⊕ ⊖ 𝟙, by_hyp r 𝟙 e.1 (auto r (p ∷ q ∷ e.0 ∷ []) (search quote depth 20) tt)) (omega arith))
