-- Settings: the polynomial D that the whole arithmetic rests on, and its root part d.
use Rattle.std.specs.Prelude.{◌≡◌, ℕ, ◌+◌, ◌≤◌}
use Rattle.ring.proofs.PolyRing.{PolyRing}

-- D of degree 2m with m at least 2; d of degree m with D − d·d of degree below m; no square of a polynomial of degree 1 or
-- more divides D. Lengths are degrees plus one. The leading coefficient of D is a square, that of d being a root of it.
pub record Setting {C R : Type 0} (K : PolyRing C R) : Type 0 where
  pub D : R
  pub d : R
  pub m : ℕ
  pub m_big : 2 ≤ m
  pub d_len : K.len d ≡ m + 1
  pub D_len : K.len D ≡ m + m + 1
  pub rest : K.len (K.r.◌⊕◌ D (K.r.⊖◌ (K.r.◌⊗◌ d d))) ≤ m
  pub squarefree : (g h : R) → D ≡ K.r.◌⊗◌ (K.r.◌⊗◌ g g) h → K.len g ≡ 1
