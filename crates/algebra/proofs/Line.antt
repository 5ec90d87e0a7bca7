-- The line: (1) at the distance 0, then steps. Number i is one ideal at one distance, and distances rise. Place t, the ideal closest
-- to the left of t with what is left of t, is equivalent to (1) at t; so, by uniqueness, place s plus place t is place s + t.
use mathlib.Core.Path.{◌≡◌, refl, sym, ap, subst}
use Prim.Native.Nat.{ℕ, zero, suc, ◌+◌, ◌-◌, ◌*◌, ◌≤◌}
use native.Mathlib.Omega.{arith}
use native.Mathlib.Decide.{dec_le}
use Rattle.ring.proofs.PolyRing.{PolyRing}
use Rattle.algebra.proofs.Sites.{~-refl, ~-sym, ~-trans, ⊙-cong, one_add, power_cong, power_one, shift}
use Rattle.algebra.proofs.Fixed.{step_fixed}
use Rattle.algebra.proofs.Step.{step_exists, step_far, step_reduced}
use Rattle.algebra.proofs.Adds.{walks, step-~, adds-~, adds_lawful}
use Rattle.algebra.proofs.Group.{site_of, origin_lawful, lawful_unique, Sum, Multiple}
use Rattle.algebra.specs.Settings.{Setting}
use Rattle.algebra.specs.Ideals.{Ideal, one, Standard}
use Rattle.algebra.specs.Equivalence.{at, ◌~◌}
use Rattle.algebra.specs.Steps.{StepTo}
use Rattle.algebra.specs.Places.{Walks, stop, walk, Adds, Place, place, LawfulPlace, origin, AddsTo}
use Rattle.algebra.specs.Lines.{Line, start, next, Closest, PlaceAt}

module _ {C R : Type 0} (K : PolyRing C R) (S : Setting K) where
  open K use {r, len}
  open S use {D, m}

  pub line_reduced : {i δ : ℕ} {a : Ideal r D} → Line K S i a δ → len a.Q ≤ m
  line_reduced start = omega (arith, K.len_one, S.m_big)
  line_reduced (next l σ e) = step_reduced K S σ (line_reduced l)

  pub line_standard : {i δ : ℕ} {a : Ideal r D} → Line K S i a δ → Standard K S a
  line_standard start = (origin_lawful K S).standard
  line_standard (next l σ e) = σ.standard_to.standard

  pub line-~ : {i δ : ℕ} {a : Ideal r D} → Line K S i a δ → ◌~◌ K S (at K S (one K S) δ) (at K S a 0)
  line-~ start = ~-refl K S (at K S (one K S) 0)
  line-~ (next {δ = δ} {δ' = δ'} {a = a} l σ e) =
      let h = line_reduced l in
      let x = step_far K S σ h in
      ~-trans K S (shift K S (one K S) a δ 0 0 0 δ' 0 (δ' - δ) 0 (line-~ l) (omega arith)) (step-~ K S σ (δ' - δ) 0 0 0 (omega arith))

  pub place_legal : {t : ℕ} {p : Place K S} → PlaceAt K S t p → LawfulPlace K S p
  place_legal π = record { standard = line_standard π.line; fits = π.fits }

  pub place-~ : {t : ℕ} {p : Place K S} → PlaceAt K S t p → ◌~◌ K S (at K S (one K S) t) (site_of K S p)
  place-~ {t} {p} π = shift K S (one K S) p.ideal π.distance 0 0 0 t 0 p.off 0 (line-~ π.line) (omega (arith, π.split))

  -- the ideal itself, at its own distance
  pub place_floor : {t : ℕ} {p : Place K S} (π : PlaceAt K S t p) → PlaceAt K S π.distance (place K S p.ideal 0)
  place_floor {t} {p} π = record {
    index = π.index;
    distance = π.distance;
    line = π.line;
    split = omega arith;
    fits = omega (arith, π.fits);
  }

  pub place_unique : {t : ℕ} {p q : Place K S} → PlaceAt K S t p → PlaceAt K S t q → p ≡ q
  place_unique {t} {p} {q} π ρ =
      lawful_unique K S p q (place_legal π) (place_legal ρ) (~-trans K S (~-sym K S (place-~ π)) (place-~ ρ))

  -- walking from an ideal of the line ends at a place of the line
  pub walks_line : {a c : Ideal r D} {gap rest i δ : ℕ} → Walks K S a gap c rest → Line K S i a δ → PlaceAt K S (δ + gap) (place K S c rest)
  walks_line {i = i} {δ = δ} (stop h) l = record { index = i; distance = δ; line = l; split = refl; fits = h }
  walks_line {gap = gap} {i = i} {δ = δ} (walk {a = a} {next = next'} {far = far} h σ e w) l =
      let red = line_reduced l in
      let x = step_far K S σ red in
      let π = walks_line {δ = δ + far - len a.Q} w (next l σ (omega arith)) in
      record { index = π.index; distance = π.distance; line = π.line; split = omega (arith, π.split); fits = π.fits }

  pub place_exists : (t : ℕ) → (p : Place K S) × PlaceAt K S t p
  place_exists t =
      let (c, rest, w) = walks K S (one K S) t (omega (arith, K.len_one, S.m_big)) in
      (place K S c rest, subst (λ x. PlaceAt K S x (place K S c rest)) (omega arith) (walks_line w start))

  -- a lawful place that is equivalent to all of O at t is the place at t
  pub place_of : (t : ℕ) (p : Place K S) → LawfulPlace K S p → ◌~◌ K S (at K S (one K S) t) (site_of K S p) → PlaceAt K S t p
  place_of t p lp E =
      let (q, π) = place_exists t in
      subst (PlaceAt K S t) (lawful_unique K S q p (place_legal π) lp (~-trans K S (~-sym K S (place-~ π)) E)) π

  pub place_origin : PlaceAt K S 0 (origin K S)
  place_origin = place_of 0 (origin K S) (origin_lawful K S) (~-refl K S (site_of K S (origin K S)))

  -- addition
  pub place_sum : {s t : ℕ} (p q x : Place K S) → PlaceAt K S s p → PlaceAt K S t q → LawfulPlace K S x → Sum K S p q x → PlaceAt K S (s + t) x
  place_sum {s} {t} p q x π ρ lx E =
      place_of (s + t) x lx (~-trans K S (~-sym K S (one_add K S s t)) (~-trans K S (⊙-cong K S (place-~ π) (place-~ ρ)) E))

  pub place_adds : {s t : ℕ} (p q x : Place K S) → PlaceAt K S s p → PlaceAt K S t q → AddsTo K S p q x → PlaceAt K S (s + t) x
  place_adds p q x π ρ A = place_sum p q x π ρ (adds_lawful K S A) (adds-~ K S A)

  -- and the other way: the place at s + t is the sum
  pub sum_place : {s t : ℕ} (p q x : Place K S) → PlaceAt K S s p → PlaceAt K S t q → PlaceAt K S (s + t) x → Sum K S p q x
  sum_place {s} {t} p q x π ρ ξ =
      ~-trans K S (⊙-cong K S (~-sym K S (place-~ π)) (~-sym K S (place-~ ρ))) (~-trans K S (one_add K S s t) (place-~ ξ))

  -- multiples
  pub place_multiple : (n : ℕ) {t : ℕ} (p x : Place K S) → PlaceAt K S t p → LawfulPlace K S x → Multiple K S n p x → PlaceAt K S (n * t) x
  place_multiple n {t} p x π lx E =
      place_of (n * t) x lx (~-trans K S (~-sym K S (power_one K S n t)) (~-trans K S (power_cong K S n (place-~ π)) E))

  -- the line is one: number i has one ideal and one distance
  pub line_unique : {i δ ε : ℕ} {a b : Ideal r D} → Line K S i a δ → Line K S i b ε → (a ≡ b) × (δ ≡ ε)
  line_unique start start = (refl, refl)
  line_unique (next {δ' = δ'} {far = f} {a = a} {b = b} l σ e) (next {δ' = ε'} {far = g} {a = a'} {b = b'} k τ i) =
      let (p, q) = line_unique l k in
      let h = line_reduced l in
      let t = subst (λ z. StepTo K S z b' g) (sym p) τ in
      ((step_fixed K S σ t).0, omega (arith, q, ap (λ z. len z.Q) p, step_far K S σ h, step_far K S t h))

  pub line_exists : (i : ℕ) → (a : Ideal r D) × (δ : ℕ) × Line K S i a δ
  line_exists zero = (one K S, 0, start)
  line_exists (suc i) =
      let (a, δ, l) = line_exists i in
      let (b, far, σ) = step_exists K S a in
      (b, δ + far - len a.Q, next l σ (omega (arith, step_far K S σ (line_reduced l), line_reduced l)))

  -- the algorithm on two places of the line, with a gap greater by e: find's digit 1 has e = 1
  pub adds_place : {s t : ℕ} (e : ℕ) (p q x : Place K S) → PlaceAt K S s p → PlaceAt K S t q
      → Adds K S p.ideal (p.off + e) q.ideal q.off x.ideal x.off → PlaceAt K S (s + t + e) x
  adds_place {s} {t} e p q x π ρ A =
      place_of (s + t + e) x (adds_lawful K S A)
      (~-trans K S (~-sym K S (shift K S (one K S) (one K S) (s + e + t) 0 (s + e + t) 0 (s + e + t) 0 (s + t + e) 0 (~-refl K S (at K S (one K S) (s + e + t))) (omega arith)))
      (~-trans K S (~-sym K S (one_add K S (s + e) t))
      (~-trans K S (⊙-cong K S (shift K S (one K S) p.ideal s 0 p.off 0 (s + e) 0 (p.off + e) 0 (place-~ π) (omega arith)) (place-~ ρ)) (adds-~ K S A))))

  -- the next distance is greater by the length of the step
  pub line_rises : {i δ ε : ℕ} {a b : Ideal r D} → Line K S i a δ → Line K S (suc i) b ε → ε + len a.Q ≡ δ + (m + 1)
  line_rises l (next n σ e) =
      let (p, q) = line_unique l n in
      omega (arith, q, ap (λ x. len x.Q) p, step_far K S σ (line_reduced n))

  -- and so on
  line_later : (k : ℕ) {i δ ε : ℕ} {a b : Ideal r D} → Line K S i a δ → Line K S (suc (k + i)) b ε → δ + m + 1 ≤ ε + len a.Q
  line_later zero {i} {ε = ε} {b = b} l k = omega (arith, line_rises l (subst (λ x. Line K S x b ε) (omega arith) k))
  line_later (suc k) {i} l (next {δ = γ} {a = c} n σ e) =
      let x = line_later k l (subst (λ x. Line K S x c γ) (omega arith) n) in
      let red = line_reduced n in
      let y = step_far K S σ red in
      omega arith

  -- the place at t has the last ideal whose distance is at most t
  pub place_last : {t j ε : ℕ} {p : Place K S} {b : Ideal r D} (π : PlaceAt K S t p) → Line K S j b ε → ε ≤ t → j ≤ π.index
  place_last {t} {j} {ε} {p} {b} π l h = elim (dec_le j π.index) [
    | yes g ↦ g
    | no g ↦
        let x = line_later (j - π.index - 1) π.line (subst (λ x. Line K S x b ε) (omega arith) l) in
        absurd (omega (arith, π.split, π.fits))
  ]

  -- and the other way
  pub place_by : {i δ : ℕ} (t : ℕ) (a : Ideal r D) → Line K S i a δ → δ ≤ t → ((j ε : ℕ) (b : Ideal r D) → Line K S j b ε → ε ≤ t → j ≤ i)
      → PlaceAt K S t (place K S a (t - δ))
  place_by {i} {δ} t a l h last = record { index = i; distance = δ; line = l; split = omega arith; fits = fit }
    where
      fit : t - δ + len a.Q ≤ m
      fit = elim (dec_le (t - δ + len a.Q) m) [
        | yes g ↦ g
        | no g ↦
            let (b, far, σ) = step_exists K S a in
            let red = line_reduced l in
            let x = step_far K S σ red in
            let y = last (suc i) (δ + far - len a.Q) b (next l σ (omega arith)) (omega arith) in
            absurd (omega arith)
      ]

  -- place t is the ideal closest to the left of t, with what is left of t
  pub place_closest : {t : ℕ} {p : Place K S} (π : PlaceAt K S t p) → Closest K S t p.ideal π.distance
  place_closest {t} {p} π = record {
    index = π.index;
    line = π.line;
    left = omega (arith, π.split);
    last = λ j ε b l h. place_last π l h;
  }

  pub closest_place : {t δ : ℕ} {a : Ideal r D} → Closest K S t a δ → PlaceAt K S t (place K S a (t - δ))
  closest_place {t} {δ} {a} c = place_by t a c.line c.left c.last

  pub closest_at : {t δ f : ℕ} {a : Ideal r D} → Closest K S t a δ → t ≡ δ + f → PlaceAt K S t (place K S a f)
  closest_at {t} {δ} {f} {a} c e = subst (λ x. PlaceAt K S t (place K S a x)) (omega arith) (closest_place c)

  pub closest_unique : {t δ ε : ℕ} {a b : Ideal r D} → Closest K S t a δ → Closest K S t b ε → (a ≡ b) × (δ ≡ ε)
  closest_unique {t} {δ} {ε} c e =
      let p = place_unique (closest_place c) (closest_place e) in
      (ap (λ x. x.ideal) p, omega (arith, ap (λ x. x.off) p, c.left, e.left))
