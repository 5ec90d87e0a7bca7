-- Making a setting: where D and its derivative have 1 among their combinations, no square divides D. And the root part d is one,
-- once its leading coefficient is given.
use mathlib.Core.Path.{◌≡◌, ◌∙◌, ap}
use mathlib.Core.List.{[], ◌∷◌}
use Prim.Native.Nat.{ℕ, ◌+◌, ◌≤◌}
use native.Mathlib.Omega.{arith}
use Rattle.ring.proofs.Ring.{sub_self→eq}
use Rattle.ring.proofs.Quote.{quote, auto}
use Rattle.ring.proofs.PolyRing.{PolyRing}
use Rattle.ring.proofs.Lengths.{len_pos, pos_len, len_sub, top_cancel, twice, longer}
use Rattle.ring.proofs.Euclid.{no_square, common_len}
use Rattle.algebra.specs.Settings.{Setting}

abbrev pub setting_by : {C R : Type 0} (K : PolyRing C R) (D d : R) (m : ℕ) (x y : R) → 2 ≤ m → K.len d ≡ m + 1 → K.len D ≡ m + m + 1
    → K.len (K.r.◌⊕◌ D (K.r.⊖◌ (K.r.◌⊗◌ d d))) ≤ m
    → K.r.◌⊕◌ (K.r.◌⊗◌ x D) (K.r.◌⊗◌ y (K.der D)) ≡ K.r.𝟙 → Setting K
setting_by K D d m x y big dl Dl rest e = record {
  D = D;
  d = d;
  m = m;
  m_big = big;
  d_len = dl;
  D_len = Dl;
  rest = rest;
  squarefree = no_square K D (λ g. common_len K D (K.der D) x y g e);
}

module _ {C R : Type 0} (K : PolyRing C R) where
  infixl 60 ◌⊕◌
  infixl 70 ◌⊗◌
  infix 80 ⊖◌
  open K use {r, len, coef}
  open r use {◌⊕◌, ⊖◌, ◌⊗◌}

  -- the root of D is one, up to its sign
  pub root_unique : (D d e : R) (m : ℕ) → len d ≡ m + 1 → len e ≡ m + 1 → coef d m ≡ coef e m
      → len (D ⊕ ⊖ (d ⊗ d)) ≤ m → len (D ⊕ ⊖ (e ⊗ e)) ≤ m → d ≡ e
  root_unique D d e m ld le top hd he = elim (K.zero? (d ⊕ ⊖ e)) [
    | yes z ↦ sub_self→eq r d e z
    | no n ↦
        let short = top_cancel K d e m (omega arith) (omega arith) top in
        let t = twice K d in
        let g = K.len_neg (d ⊕ ⊖ e) in
        let long : len (d ⊕ d ⊕ ⊖ (d ⊕ ⊖ e)) ≡ len (d ⊕ d) = longer K (d ⊕ d) (⊖ (d ⊕ ⊖ e)) (omega arith) in
        let sum : len (d ⊕ e) ≡ m + 1 = ap len (auto r (d ∷ e ∷ []) (search quote depth 20) tt) ∙ long ∙ t ∙ ld in
        let prod = K.len_mul (d ⊕ ⊖ e) (d ⊕ e) n (pos_len K (d ⊕ e) (omega arith)) in
        let same : len ((d ⊕ ⊖ e) ⊗ (d ⊕ e)) ≡ len (D ⊕ ⊖ (e ⊗ e) ⊕ ⊖ (D ⊕ ⊖ (d ⊗ d))) = ap len (auto r (D ∷ d ∷ e ∷ []) (search quote depth 20) tt) in
        let low = len_sub K (D ⊕ ⊖ (e ⊗ e)) (D ⊕ ⊖ (d ⊗ d)) m he hd in
        let pos = len_pos K (d ⊕ ⊖ e) n in
        absurd (omega arith)
  ]
