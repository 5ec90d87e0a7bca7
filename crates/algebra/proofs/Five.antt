-- The worked setting over the field of 5 elements: witnesses for each step of its line and for its products, tested by evaluation.
-- A new case of the same setting is a new entry of one of the tables, and of the list in specs/.
use mathlib.Core.Path.{◌≡◌, refl, ap}
use mathlib.Core.List.{List, [], ◌∷◌, ◌++◌}
use Prim.Native.Nat.{ℕ, ◌+◌, ◌≤◌}
use native.Mathlib.Omega.{arith}
use native.Mathlib.Decide.{ℕ_discrete, dec_lt}
use Rattle.field.specs.Meaning.{Lawful}
use Rattle.field.specs.Primes.{listed, prime_meaning, sum_mod, opposite_mod, product_mod}
use Rattle.field.proofs.Primality.{listed_prime}
use Rattle.field.proofs.PrimeLaws.{prime_lawful}
use Rattle.ring.proofs.Coeffs.{add_l, neg_l, scale_l, mul_l, norm}
use Rattle.ring.proofs.Poly.{Polynomials, add_p, neg_p, mul_p}
use Rattle.ring.proofs.Derive.{num, times_l, der_l, der}
use Rattle.ring.proofs.PolyModel.{poly_ring}
use Rattle.algebra.specs.Codes.{code, ring_c, zero_c?, R, K}
use Rattle.algebra.specs.Settings.{Setting}
use Rattle.algebra.specs.Ideals.{one}
use Rattle.algebra.specs.Places.{reduced, reduce}
use Rattle.std.specs.List.{AllByRecursion}
use Rattle.algebra.specs.Lines.{start}
use Rattle.algebra.specs.Worked.{Written, ideal, Case, line_at, place_at, sum_to, written, Shows, Holds, Sample, unit, i₁, i₂, i₃, i₄, i₅, i₆, i₇, line_cases, product_cases, place_cases, cases, WorkedCases}
use Rattle.algebra.proofs.Settings.{setting_by}
use Rattle.algebra.proofs.PlaceTheorems.{sums_on_line}
use Rattle.algebra.proofs.Written.{Form, Turn, Merge, by_numbers, part, form_left, form_right, form_ideal, form_shows, turn_left, turn_right, turn_is, stretch_left, stretch_right, stretch, merge_left, merge_right, merge_whole, merge_case}

pub lawful_5 : Lawful (prime_meaning 5)
unfolding listed
lawful_5 = prime_lawful 5 (listed_prime 5 refl)

-- the steps of the line, each with the distance that it leads to
abbrev form : Written → List ℕ → List ℕ → List ℕ → List ℕ → Form
form a c e q C = record { ideal = a; c = c; e = e; q = q; C = C }

abbrev turn : List ℕ → List ℕ → List ℕ → List ℕ → Form → Turn
turn k s Q₁ P₁ f = record { k = k; s = s; Q₁ = Q₁; P₁ = P₁; to = f }

abbrev turns : List (Turn × ℕ)
turns =
    (turn (0 ∷ 0 ∷ 1 ∷ []) [] (1 ∷ 1 ∷ []) (0 ∷ 0 ∷ 1 ∷ []) (form i₁ (1 ∷ []) (1 ∷ []) (4 ∷ 1 ∷ []) (0 ∷ 1 ∷ 4 ∷ 1 ∷ [])), 2)
    ∷ (turn (4 ∷ 1 ∷ []) (2 ∷ []) (2 ∷ 4 ∷ []) (3 ∷ 0 ∷ 1 ∷ []) (form i₂ (4 ∷ []) (4 ∷ []) (2 ∷ 1 ∷ []) (4 ∷ 4 ∷ 2 ∷ 1 ∷ [])), 3)
    ∷ (turn (2 ∷ 1 ∷ []) (1 ∷ []) (0 ∷ 2 ∷ []) (4 ∷ 0 ∷ 1 ∷ []) (form i₃ (3 ∷ []) (2 ∷ []) (0 ∷ 1 ∷ []) (1 ∷ 0 ∷ 0 ∷ 1 ∷ [])), 4)
    ∷ (turn (0 ∷ 1 ∷ []) (4 ∷ []) (1 ∷ 3 ∷ []) (1 ∷ 0 ∷ 1 ∷ []) (form i₄ (2 ∷ []) (3 ∷ []) (3 ∷ 1 ∷ []) (3 ∷ 4 ∷ 3 ∷ 1 ∷ [])), 5)
    ∷ (turn (3 ∷ 1 ∷ []) (4 ∷ []) (0 ∷ 3 ∷ []) (1 ∷ 0 ∷ 1 ∷ []) (form i₅ (2 ∷ []) (3 ∷ []) (0 ∷ 1 ∷ []) (1 ∷ 0 ∷ 0 ∷ 1 ∷ [])), 6)
    ∷ (turn (0 ∷ 1 ∷ []) (1 ∷ []) (1 ∷ 2 ∷ []) (4 ∷ 0 ∷ 1 ∷ []) (form i₆ (3 ∷ []) (2 ∷ []) (2 ∷ 1 ∷ []) (4 ∷ 4 ∷ 2 ∷ 1 ∷ [])), 7)
    ∷ (turn (2 ∷ 1 ∷ []) (2 ∷ []) (4 ∷ 4 ∷ []) (3 ∷ 0 ∷ 1 ∷ []) (form i₇ (4 ∷ []) (4 ∷ []) (4 ∷ 1 ∷ []) (0 ∷ 1 ∷ 4 ∷ 1 ∷ [])), 8)
    ∷ (turn (4 ∷ 1 ∷ []) [] (1 ∷ []) (0 ∷ 0 ∷ 1 ∷ []) (form unit (1 ∷ []) (1 ∷ []) (0 ∷ 0 ∷ 1 ∷ []) (1 ∷ 1 ∷ 0 ∷ 0 ∷ 1 ∷ [])), 9)
    ∷ []

-- the product (x² + 4x + 3, 2x + 3) of (x + 1, 1) and (x + 3, 2), which is not reduced, and its step
abbrev merge₁₂ : Merge
merge₁₂ = record {
  s = 1 ∷ [];
  X = 2 ∷ [];
  Y = [];
  Z = 3 ∷ [];
  A = 1 ∷ 1 ∷ [];
  B = 3 ∷ 1 ∷ [];
  E = 3 ∷ [];
  Qc = 3 ∷ 4 ∷ 1 ∷ [];
  Pc = 3 ∷ 2 ∷ [];
  to = form (ideal (3 ∷ 4 ∷ 1 ∷ []) (3 ∷ 2 ∷ [])) (1 ∷ []) (1 ∷ []) [] (4 ∷ 1 ∷ 1 ∷ []);
}

abbrev turn₁₂ : Turn
turn₁₂ = turn (1 ∷ []) (0 ∷ 3 ∷ []) (2 ∷ 1 ∷ []) (0 ∷ 2 ∷ 1 ∷ []) (form i₄ (1 ∷ []) (1 ∷ []) (0 ∷ 1 ∷ []) (3 ∷ 4 ∷ 3 ∷ 1 ∷ []))

-- the product of (x + 1, 1) and (x + 1, 4), whose common divisor is x + 1
abbrev merge₁₇ : Merge
merge₁₇ = record {
  s = 1 ∷ 1 ∷ [];
  X = 1 ∷ [];
  Y = [];
  Z = [];
  A = 1 ∷ [];
  B = 1 ∷ [];
  E = [];
  Qc = 1 ∷ [];
  Pc = 4 ∷ [];
  to = form unit (1 ∷ []) (1 ∷ []) (4 ∷ []) (1 ∷ 1 ∷ 0 ∷ 0 ∷ 1 ∷ []);
}

module _ (L : Lawful (prime_meaning 5)) where
  abbrev D : R L
  D = written L (1 ∷ 1 ∷ 0 ∷ 0 ∷ 1 ∷ [])

  abbrev d : R L
  d = written L (0 ∷ 0 ∷ 1 ∷ [])

  d_len : (K L).len d ≡ 2 + 1
  unfolding code ring_c zero_c? norm poly_ring ℕ_discrete dec_lt
  d_len = refl

  D_len : (K L).len D ≡ 2 + 2 + 1
  unfolding code ring_c zero_c? norm poly_ring ℕ_discrete dec_lt
  D_len = refl

  rest_len : (K L).len ((K L).r.◌⊕◌ D ((K L).r.⊖◌ ((K L).r.◌⊗◌ d d))) ≤ 2
  unfolding code ring_c zero_c? norm poly_ring Polynomials add_p neg_p mul_p add_l neg_l scale_l mul_l sum_mod opposite_mod product_mod ℕ_discrete dec_lt
  rest_len = omega arith

  coprime : (K L).r.◌⊕◌ ((K L).r.◌⊗◌ (written L (4 ∷ 2 ∷ 1 ∷ [])) D) ((K L).r.◌⊗◌ (written L (2 ∷ 4 ∷ 2 ∷ 1 ∷ [])) ((K L).der D)) ≡ (K L).r.𝟙
  unfolding code ring_c zero_c? norm poly_ring Polynomials add_p neg_p mul_p der add_l neg_l scale_l mul_l num times_l der_l sum_mod opposite_mod product_mod ℕ_discrete dec_lt
  coprime = by_numbers L _ _ refl

  abbrev S : Setting (K L)
  S = setting_by (K L) D d 2 (written L (4 ∷ 2 ∷ 1 ∷ [])) (written L (2 ∷ 4 ∷ 2 ∷ 1 ∷ [])) (omega arith) d_len D_len rest_len coprime

  unit_shows : Shows L S (one (K L) S) unit
  unfolding code ring_c zero_c? norm poly_ring Polynomials ℕ_discrete dec_lt
  unit_shows = record { Q_is = by_numbers L _ _ refl; P_is = by_numbers L _ _ refl }

  tested : stretch_left L S 0 unit turns ≡ stretch_right L S 0 unit turns
  unfolding code ring_c zero_c? norm poly_ring Polynomials add_p neg_p mul_p add_l neg_l scale_l mul_l sum_mod opposite_mod product_mod ℕ_discrete dec_lt
  tested = refl

  lines : AllByRecursion (Holds L S) line_cases
  lines = ((one (K L) S, unit_shows, start), stretch L S turns 0 0 unit (one (K L) S) start unit_shows tested)

  -- the products
  tested₁₂ : merge_left L S i₁ i₂ (0 ∷ 1 ∷ 4 ∷ 1 ∷ []) (4 ∷ 4 ∷ 2 ∷ 1 ∷ []) merge₁₂ ≡ merge_right L S i₁ i₂ (0 ∷ 1 ∷ 4 ∷ 1 ∷ []) (4 ∷ 4 ∷ 2 ∷ 1 ∷ []) merge₁₂
  unfolding code ring_c zero_c? norm poly_ring Polynomials add_p neg_p mul_p add_l neg_l scale_l mul_l sum_mod opposite_mod product_mod ℕ_discrete dec_lt
  tested₁₂ = refl

  tested₁₇ : merge_left L S i₁ i₇ (0 ∷ 1 ∷ 4 ∷ 1 ∷ []) (0 ∷ 1 ∷ 4 ∷ 1 ∷ []) merge₁₇ ≡ merge_right L S i₁ i₇ (0 ∷ 1 ∷ 4 ∷ 1 ∷ []) (0 ∷ 1 ∷ 4 ∷ 1 ∷ []) merge₁₇
  unfolding code ring_c zero_c? norm poly_ring Polynomials add_p neg_p mul_p add_l neg_l scale_l mul_l sum_mod opposite_mod product_mod ℕ_discrete dec_lt
  tested₁₇ = refl

  -- the step of the first one
  turned : turn_left L S merge₁₂.to.ideal turn₁₂ ≡ turn_right L S merge₁₂.to.ideal turn₁₂
  unfolding code ring_c zero_c? norm poly_ring Polynomials add_p neg_p mul_p add_l neg_l scale_l mul_l sum_mod opposite_mod product_mod ℕ_discrete dec_lt
  turned = refl

  formed : form_left L S turn₁₂.Q₁ turn₁₂.P₁ turn₁₂.to ≡ form_right L S turn₁₂.Q₁ turn₁₂.P₁ turn₁₂.to
  unfolding code ring_c zero_c? norm poly_ring Polynomials add_p neg_p mul_p add_l neg_l scale_l mul_l sum_mod opposite_mod product_mod ℕ_discrete dec_lt
  formed = refl

  products : AllByRecursion (Holds L S) product_cases
  unfolding code ring_c zero_c? norm poly_ring Polynomials add_p neg_p mul_p add_l neg_l scale_l mul_l sum_mod opposite_mod product_mod ℕ_discrete dec_lt
  products = (
    merge_case L S i₁ i₂ (0 ∷ 1 ∷ 4 ∷ 1 ∷ []) (4 ∷ 4 ∷ 2 ∷ 1 ∷ []) merge₁₂ tested₁₂ i₄
        (form_ideal L S turn₁₂.Q₁ turn₁₂.P₁ turn₁₂.to formed) (form_shows L S turn₁₂.Q₁ turn₁₂.P₁ turn₁₂.to formed) 0 0
        (reduce (omega arith)
        (turn_is L S merge₁₂.to.ideal turn₁₂ (merge_whole L S i₁ i₂ (0 ∷ 1 ∷ 4 ∷ 1 ∷ []) (4 ∷ 4 ∷ 2 ∷ 1 ∷ []) merge₁₂ tested₁₂)
        (form_shows L S merge₁₂.Qc merge₁₂.Pc merge₁₂.to (part L 3 tested₁₂)) turned formed)
        refl (reduced (omega arith)))
        refl,
    (
      merge_case L S i₁ i₇ (0 ∷ 1 ∷ 4 ∷ 1 ∷ []) (0 ∷ 1 ∷ 4 ∷ 1 ∷ []) merge₁₇ tested₁₇ unit
          (merge_whole L S i₁ i₇ (0 ∷ 1 ∷ 4 ∷ 1 ∷ []) (0 ∷ 1 ∷ 4 ∷ 1 ∷ []) merge₁₇ tested₁₇)
          (form_shows L S merge₁₇.Qc merge₁₇.Pc merge₁₇.to (part L 3 tested₁₇)) 1 0
          (reduced (omega arith))
          refl,
      tt,
    ),
  )

  -- places: an ideal of the line with an offset
  on_line : (i δ t f n : ℕ) (a : Written) → Holds L S (line_at i a δ) → t ≡ δ + f → (K L).len (written L a.Q) ≡ n → f + n ≤ 2
      → Holds L S (place_at t a f)
  on_line i δ t f n a l e q h = (
    l.0,
    l.1,
    record {
      index = i;
      distance = δ;
      line = l.2;
      split = e;
      fits = omega (arith, ap (K L).len l.1.Q_is);
    },
  )

  place₁ : Holds L S (place_at 1 unit 1)
  unfolding code ring_c zero_c? norm poly_ring ℕ_discrete dec_lt
  place₁ = on_line 0 0 1 1 1 unit lines.0 refl refl (omega arith)

  place₂ : Holds L S (place_at 2 i₁ 0)
  unfolding code ring_c zero_c? norm poly_ring ℕ_discrete dec_lt
  place₂ = on_line 1 2 2 0 2 i₁ lines.1.0 refl refl (omega arith)

  place₈ : Holds L S (place_at 8 i₇ 0)
  unfolding code ring_c zero_c? norm poly_ring ℕ_discrete dec_lt
  place₈ = on_line 7 8 8 0 2 i₇ lines.1.1.1.1.1.1.1.0 refl refl (omega arith)

  place₁₀ : Holds L S (place_at 10 unit 1)
  unfolding code ring_c zero_c? norm poly_ring ℕ_discrete dec_lt
  place₁₀ = on_line 8 9 10 1 1 unit lines.1.1.1.1.1.1.1.1.0 refl refl (omega arith)

  places : AllByRecursion (Holds L S) place_cases
  places = (
    place₁,
    (
      place₂,
      (
        place₈,
        (
          place₁₀,
          (
            sum unit unit i₁ 1 1 1 1 0 place₁ place₁ place₂,
            (
              sum i₁ i₇ unit 2 8 0 0 1 place₂ place₈ place₁₀,
              tt,
            ),
          ),
        ),
      ),
    ),
  )
    where
      sum : (a b c : Written) (s t f g h : ℕ) → Holds L S (place_at s a f) → Holds L S (place_at t b g) → Holds L S (place_at (s + t) c h)
          → Holds L S (sum_to a f b g c h)
      sum a b c s t f g h x y z =
          (x.0, x.1, (y.0, y.1, (z.0, z.1, (sums_on_line (K L) S).reaches s t _ _ _ x.2 y.2 z.2)))

  all_append : (cs ds : List Case) → AllByRecursion (Holds L S) cs → AllByRecursion (Holds L S) ds → AllByRecursion (Holds L S) (cs ++ ds)
  all_append [] ds h g = g
  all_append (c ∷ cs) ds h g = (h.0, all_append cs ds h.1 g)

  pub worked : (s : Sample L) × AllByRecursion (Holds L s.setting) cases
  worked = (
    record { setting = S; D_is = refl; d_is = refl; m_is = refl },
    all_append line_cases (product_cases ++ place_cases) lines (all_append product_cases place_cases products places),
  )

pub worked_cases_lem : WorkedCases
worked_cases_lem = (lawful_5, worked)
