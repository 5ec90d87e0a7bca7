-- The rule of addition (product, standard form, reduction, walk) ends in a lawful place, and that is equivalent to the product of
-- the two that it began with; it can always be followed; and bounds on its gap, for programs that follow it.
use mathlib.Core.Path.{◌≡◌, ap}
use Prim.Native.Nat.{ℕ, zero, suc, ◌+◌, ◌-◌, ◌≤◌}
use native.Mathlib.Omega.{arith}
use native.Mathlib.Decide.{dec_le}
use Rattle.ring.proofs.PolyRing.{PolyRing}
use Rattle.ring.proofs.Order.{mk}
use Rattle.algebra.proofs.Degrees.{degree}
use Rattle.ring.proofs.Lengths.{len_pos, alive_one}
use Rattle.algebra.proofs.Product.{product, s_alive, product_alive, product_exact, product_len, product_to, product_from}
use Rattle.algebra.proofs.Sites.{~-refl, ~-trans, alive_𝟏, plain_alive, shift}
use Rattle.algebra.proofs.Step.{standard_form, standard-⊆, standard-⊇, normal_len, step_exists, step_far, step_reduced, step_big, step_short, step_falls, far_alive, step_to, step_from}
use Rattle.algebra.specs.Settings.{Setting}
use Rattle.algebra.specs.Ideals.{Ideal, Standard, LawfulAt, StandardForm}
use Rattle.algebra.specs.Products.{Product}
use Rattle.algebra.specs.Equivalence.{Site, site, at, ◌~◌, ◌⊙◌}
use Rattle.algebra.specs.Steps.{StepTo}
use Rattle.algebra.specs.Places.{Reduces, reduced, reduce, Walks, stop, walk, Adds}

module _ {C R : Type 0} (K : PolyRing C R) (S : Setting K) where
  infix 50 ◌≈◌
  infixl 60 ◌⊕◌
  open K use {r, len}
  open S use {D, d, m}
  open r use {𝟘, 𝟙, ◌⊕◌}

  abbrev ◌≈◌ : Site K S → Site K S → Type 0
  p ≈ q = ◌~◌ K S p q

  -- the step of every ideal, of length far − len Q
  pub step-~ : {a b : Ideal r D} {far : ℕ} → StepTo K S a b far → (f f' g g' : ℕ) → f + g' + len a.Q ≡ g + f' + far
      → ◌~◌ K S (site K S a f f') (site K S b g g')
  step-~ {a} {b} {far} σ f f' g g' e = record {
    α = mk σ.P₁ 𝟙;
    β = mk a.Q 𝟘;
    α_alive = λ z. alive_one K (ap (λ x. x.v) z);
    β_alive = plain_alive K S a.Q a.alive;
    to = step_to K S σ;
    from = step_from K S σ;
    off = omega (arith, (degree K S).plain a.Q a.alive, (degree K S).step σ.P₁ (far_alive K S σ), σ.far_is);
  }

  -- the product of two ideals, of offset f + g + deg s
  pub product-~ : (a b : Ideal r D) (s Qc Pc : R) → Product K S a b s Qc Pc → (c : Ideal r D) → StandardForm K S Qc Pc c
      → (f f' g g' h h' : ℕ) → f + g + h' + len s ≡ h + f' + g' + 1
      → ◌~◌ K S (◌⊙◌ K S (site K S a f f') (site K S b g g')) (site K S c h h')
  product-~ a b s Qc Pc π c ν f f' g g' h h' e = record {
    α = mk 𝟙 𝟘;
    β = mk s 𝟘;
    α_alive = alive_𝟏 K S;
    β_alive = plain_alive K S s (s_alive K S a b s Qc Pc π);
    to = λ ζ i. (let w = product_to K S a b s Qc Pc π ζ i in (w.0, standard-⊆ K S Qc Pc c ν w.0 w.1, w.2));
    from = λ ζ i. product_from K S a b s Qc Pc π ζ (standard-⊇ K S Qc Pc c ν ζ i);
    off = omega (arith, (degree K S).plain s (s_alive K S a b s Qc Pc π), (degree K S).plain 𝟙 (alive_one K), K.len_one);
  }

  -- reduction
  pub reduces-~ : {a c : Ideal r D} {saved : ℕ} → Reduces K S a c saved → (f g : ℕ) → g ≡ f + saved → ◌~◌ K S (at K S a f) (at K S c g)
  reduces-~ {a} (reduced h) f g e = shift K S a a f 0 f 0 f 0 g 0 (~-refl K S (at K S a f)) (omega arith)
  reduces-~ {a} {c} (reduce {b = b} {far = far} {more = more} {saved = saved} h σ e w) f g i =
      let l = step_big K S σ h in
      let x : f + len a.Q ≡ (f + saved - more) + far = omega arith in
      ~-trans K S (step-~ σ f 0 (f + saved - more) 0 (omega arith)) (reduces-~ w (f + saved - more) g (omega arith))

  pub reduces_tidy : {a c : Ideal r D} {saved : ℕ} → Reduces K S a c saved → Standard K S a → Standard K S c
  reduces_tidy (reduced h) t = t
  reduces_tidy (reduce h σ e w) t = reduces_tidy w σ.standard_to.standard

  pub reduces_reduced : {a c : Ideal r D} {saved : ℕ} → Reduces K S a c saved → len c.Q ≤ m
  reduces_reduced (reduced h) = h
  reduces_reduced (reduce h σ e w) = reduces_reduced w

  -- what is saved is no more than what Q loses
  pub reduces_saved : {a c : Ideal r D} {saved : ℕ} → Reduces K S a c saved → saved + len c.Q ≤ len a.Q
  reduces_saved (reduced h) = omega arith
  reduces_saved (reduce {a = a} {b = b} h σ e w) =
      let x = step_short K S σ h in
      let y = reduces_saved w in
      omega arith

  reduces_by : (n : ℕ) (a : Ideal r D) → len a.Q ≤ n → (c : Ideal r D) × (saved : ℕ) × Reduces K S a c saved
  reduces_by zero a l = (a, 0, reduced (omega arith))
  reduces_by (suc n) a l = elim (dec_le (len a.Q) m) [
    | yes h ↦ (a, 0, reduced h)
    | no h ↦
        let (b, far, σ) = step_exists K S a in
        let big : m + 1 ≤ len a.Q = omega arith in
        let x = step_big K S σ big in
        let y = step_falls K S σ big in
        let (c, more, w) = reduces_by n b (omega arith) in
        (c, more + len a.Q - far, reduce big σ (omega arith) w)
  ]

  pub reduces : (a : Ideal r D) → (c : Ideal r D) × (saved : ℕ) × Reduces K S a c saved
  reduces a = reduces_by (len a.Q) a (omega arith)

  -- the walk
  pub walks-~ : {a c : Ideal r D} {gap rest : ℕ} → Walks K S a gap c rest → ◌~◌ K S (at K S a gap) (at K S c rest)
  walks-~ {a} {gap = gap} (stop h) = ~-refl K S (at K S a gap)
  walks-~ {gap = gap} (walk {next = next} h σ e w) = ~-trans K S (step-~ σ gap 0 next 0 (omega arith)) (walks-~ w)

  pub walks_standard : {a c : Ideal r D} {gap rest : ℕ} → Walks K S a gap c rest → Standard K S a → Standard K S c
  walks_standard (stop h) t = t
  walks_standard (walk h σ e w) t = walks_standard w σ.standard_to.standard

  pub walks_fits : {a c : Ideal r D} {gap rest : ℕ} → Walks K S a gap c rest → rest + len c.Q ≤ m
  walks_fits (stop h) = h
  walks_fits (walk h σ e w) = walks_fits w

  walks_by : (n : ℕ) (a : Ideal r D) (gap : ℕ) → gap ≤ n → len a.Q ≤ m → (c : Ideal r D) × (rest : ℕ) × Walks K S a gap c rest
  walks_by zero a gap l red = (a, gap, stop (omega arith))
  walks_by (suc n) a gap l red = elim (dec_le (gap + len a.Q) m) [
    | yes h ↦ (a, gap, stop h)
    | no h ↦
        let (b, far, σ) = step_exists K S a in
        let x = step_far K S σ red in
        let (c, rest, w) = walks_by n b (gap + len a.Q - far) (omega arith) (step_reduced K S σ red) in
        (c, rest, walk (omega arith) σ (omega arith) w)
  ]

  pub walks : (a : Ideal r D) (gap : ℕ) → len a.Q ≤ m → (c : Ideal r D) × (rest : ℕ) × Walks K S a gap c rest
  walks a gap h = walks_by gap a gap (omega arith) h

  pub adds-~ : {a b c : Ideal r D} {f g h : ℕ} → Adds K S a f b g c h → ◌~◌ K S (◌⊙◌ K S (at K S a f) (at K S b g)) (at K S c h)
  adds-~ {a} {b} {c} {f} {g} {h} A =
      let l = len_pos K A.s (s_alive K S a b A.s A.Qc A.Pc A.is_product) in
      ~-trans K S (product-~ a b A.s A.Qc A.Pc A.is_product A.whole A.is_normal f 0 g 0 (f + g + len A.s - 1) 0 (omega arith))
      (~-trans K S (reduces-~ A.is_reduced (f + g + len A.s - 1) A.gap (omega (arith, A.gap_is))) (walks-~ A.is_walked))

  pub adds_lawful : {a b c : Ideal r D} {f g h : ℕ} → Adds K S a f b g c h → LawfulAt K S c h
  adds_lawful A = record {
    standard = walks_standard A.is_walked (reduces_tidy A.is_reduced A.is_normal.standard);
    fits = walks_fits A.is_walked;
  }

  -- bounds on the gap
  module _ {a b c : Ideal r D} {f g h : ℕ} (A : Adds K S a f b g c h) where
    pub adds_whole : len a.Q + len b.Q + 1 ≡ len A.s + len A.s + len A.whole.Q
    adds_whole = omega (
      arith,
      product_len K S a b A.s A.Qc A.Pc A.is_product,
      normal_len K S A.Qc A.Pc A.whole A.is_normal (product_alive K S a b A.s A.Qc A.Pc A.is_product),
    )

    adds_s : 1 ≤ len A.s
    adds_s = len_pos K A.s (s_alive K S a b A.s A.Qc A.Pc A.is_product)

    -- the gap is no less than f + g
    pub adds_shortfall : f + g ≤ A.gap
    adds_shortfall = omega (arith, adds_s, A.gap_is)

    pub adds_gap : A.gap + len A.small.Q + 1 ≤ f + len a.Q + (g + len b.Q)
    adds_gap = omega (arith, adds_whole, adds_s, reduces_saved A.is_reduced, A.gap_is)

  pub adds_exists : (a : Ideal r D) (f : ℕ) (b : Ideal r D) (g : ℕ) → (c : Ideal r D) × (h : ℕ) × Adds K S a f b g c h
  adds_exists a f b g =
      let (s, Qc, Pc, π) = product K S a b in
      let (w, ν) = standard_form K S Qc Pc (product_alive K S a b s Qc Pc π) (product_exact K S a b s Qc Pc π) in
      let (q, saved, ρ) = reduces w in
      let l = len_pos K s (s_alive K S a b s Qc Pc π) in
      let (c, h, ω) = walks q (f + g + len s + saved - 1) (reduces_reduced ρ) in (
        c,
        h,
        record {
          s = s;
          Qc = Qc;
          Pc = Pc;
          whole = w;
          small = q;
          saved = saved;
          gap = f + g + len s + saved - 1;
          is_product = π;
          is_normal = ν;
          is_reduced = ρ;
          gap_is = omega arith;
          is_walked = ω;
        },
      )
