-- Steps and products of written ideals from their witnesses. Everything that a step or a product claims is an equation between
-- polynomials or a comparison of lengths, so that for given witnesses it is tested by evaluating lists of numbers.
use mathlib.Core.Path.{◌≡◌, sym, ◌∙◌, ap, ap₂, refl}
use mathlib.Core.Logic.{◌≢◌}
use mathlib.Core.List.{List, [], ◌∷◌, map}
use Prim.Native.Nat.{ℕ, suc, ◌+◌, ◌-◌}
use native.Mathlib.Omega.{arith}
use lib.ListN.{get_or}
use Rattle.std.specs.List.{AllByRecursion}
use Rattle.field.specs.Meaning.{Meaning, Lawful}
use Rattle.ring.proofs.Ring.{Divides}
use Rattle.ring.proofs.Poly.{list_ext}
use Rattle.ring.proofs.Lengths.{pos_len}
use Rattle.algebra.specs.Codes.{Code, code, code_ext, num_code, R, K}
use Rattle.algebra.specs.Settings.{Setting}
use Rattle.algebra.specs.Ideals.{Ideal, Standard, StandardForm}
use Rattle.algebra.specs.Steps.{StepTo}
use Rattle.algebra.specs.Products.{Product}
use Rattle.algebra.specs.Lines.{Line, next}
use Rattle.algebra.specs.Places.{Reduces}
use Rattle.algebra.specs.Worked.{Written, Case, line_at, product_to, written, Shows, Holds}
use Rattle.algebra.proofs.Unique.{standard_by}

-- the standard form of some (Q₁, P₁): c·e = 1, Q = c·Q₁, P₁ = q·Q + P, and D − P·P = C·Q
pub record Form : Type 0 where
  pub ideal : Written
  pub c : List ℕ
  pub e : List ℕ
  pub q : List ℕ
  pub C : List ℕ

-- a baby step: the division P + d = k·Q + s, and where it leads
pub record Turn : Type 0 where
  pub k : List ℕ
  pub s : List ℕ
  pub Q₁ : List ℕ
  pub P₁ : List ℕ
  pub to : Form

-- a product: s = X·Qa + Z·Qb + Y·(Pa + Pb), Qa = A·s, Qb = B·s, Pa + Pb = E·s, and where it leads
pub record Merge : Type 0 where
  pub s : List ℕ
  pub X : List ℕ
  pub Y : List ℕ
  pub Z : List ℕ
  pub A : List ℕ
  pub B : List ℕ
  pub E : List ℕ
  pub Qc : List ℕ
  pub Pc : List ℕ
  pub to : Form

module _ {M : Meaning} (L : Lawful M) where
  infixl 60 ◌⊕◌
  infixl 70 ◌⊗◌
  infix 80 ⊖◌
  open K L use {r, len, coef}
  open r use {𝟘, 𝟙, ◌⊕◌, ⊖◌, ◌⊗◌}

  abbrev w : List ℕ → R L
  w = written L

  -- the numbers of a polynomial's coefficients decide it
  abbrev pub numbers : R L → List ℕ
  numbers p = map (λ (c : Code M). c.num) p.list

  pub codes_numbers : (l : List (Code M)) → map (code L) (map (λ (c : Code M). c.num) l) ≡ l
  codes_numbers [] = refl
  codes_numbers (c ∷ l) = ap₂ ◌∷◌ (code_ext (code L c.num) c (num_code L c.num c.low)) (codes_numbers l)

  pub by_numbers : (p q : R L) → numbers p ≡ numbers q → p ≡ q
  by_numbers p q e = list_ext _ p q (sym (codes_numbers p.list) ∙ ap (map (code L)) e ∙ codes_numbers q.list)

  -- entries of equal lists
  entry : {x y : List (List ℕ)} (n : ℕ) → x ≡ y → get_or x n [] ≡ get_or y n []
  entry n e = ap (λ (l : List (List ℕ)). get_or l n []) e

  pub part : {x y : List (List (List ℕ))} (n : ℕ) → x ≡ y → get_or x n [] ≡ get_or y n []
  part n e = ap (λ (l : List (List (List ℕ))). get_or l n []) e

  figure : {x y : List ℕ} (n : ℕ) → x ≡ y → get_or x n 0 ≡ get_or y n 0
  figure n e = ap (λ (l : List ℕ). get_or l n 0) e

  module _ (S : Setting (K L)) where
    open S use {D, d}

    -- what a form claims: the left sides and the right sides of its equations, and then its lengths
    module _ (Q₁ P₁ : List ℕ) (f : Form) where
      abbrev Q : R L
      Q = w f.ideal.Q

      abbrev P : R L
      P = w f.ideal.P

      abbrev pub form_left : List (List ℕ)
      form_left = numbers (w f.c ⊗ w f.e) ∷ numbers Q ∷ numbers (w P₁) ∷ numbers (D ⊕ ⊖ (P ⊗ P))
          ∷ (((len P + 1) - len Q) ∷ (1 - len Q) ∷ (coef Q (len Q - 1)).num ∷ []) ∷ []

      abbrev pub form_right : List (List ℕ)
      form_right = numbers 𝟙 ∷ numbers (w f.c ⊗ w Q₁) ∷ numbers (w f.q ⊗ Q ⊕ P) ∷ numbers (w f.C ⊗ Q)
          ∷ (0 ∷ 0 ∷ (K L).k.𝟙.num ∷ []) ∷ []

      module _ (h : form_left ≡ form_right) where
        pub alive : Q ≢ 𝟘
        alive = pos_len (K L) Q (omega (arith, figure 1 (entry 4 h)))

        pub exact : Divides r Q (D ⊕ ⊖ (P ⊗ P))
        exact = (w f.C, by_numbers _ _ (entry 3 h))

        abbrev pub form_ideal : Ideal r D
        form_ideal = record { Q = Q; P = P; alive = alive; exact = exact }

        pub form_standard : Standard (K L) S form_ideal
        form_standard = standard_by (K L) S form_ideal (len Q - 1) (omega (arith, figure 0 (entry 4 h))) (omega (arith, figure 1 (entry 4 h)))
            (code_ext _ _ (figure 2 (entry 4 h)))

        pub form_is : StandardForm (K L) S (w Q₁) (w P₁) form_ideal
        form_is = record {
          c = w f.c;
          e = w f.e;
          q = w f.q;
          inverse = by_numbers _ _ (entry 0 h);
          Q_is = by_numbers _ _ (entry 1 h);
          P_is = by_numbers _ _ (entry 2 h);
          standard = form_standard;
        }

        pub form_shows : Shows L S form_ideal f.ideal
        form_shows = record { Q_is = refl; P_is = refl }

    -- what a step from the written ideal a claims
    module _ (a : Written) (t : Turn) where
      abbrev pub turn_left : List (List ℕ)
      turn_left = numbers (w a.P ⊕ d) ∷ numbers (w t.P₁) ∷ numbers (w a.Q ⊗ w t.Q₁)
          ∷ (((len (w t.s) + 1) - len (w a.Q)) ∷ []) ∷ []

      abbrev pub turn_right : List (List ℕ)
      turn_right = numbers (w t.k ⊗ w a.Q ⊕ w t.s) ∷ numbers (d ⊕ ⊖ w t.s) ∷ numbers (D ⊕ ⊖ (w t.P₁ ⊗ w t.P₁))
          ∷ (0 ∷ []) ∷ []

      pub turn_is : (x : Ideal r D) → Shows L S x a → turn_left ≡ turn_right
          → (h : form_left t.Q₁ t.P₁ t.to ≡ form_right t.Q₁ t.P₁ t.to)
          → StepTo (K L) S x (form_ideal t.Q₁ t.P₁ t.to h) (len (w t.P₁ ⊕ d))
      turn_is x σ g h = record {
        Q₁ = w t.Q₁;
        P₁ = w t.P₁;
        steps_to = rw (σ.Q_is, σ.P_is) record {
          k = w t.k;
          s = w t.s;
          alive = pos_len (K L) (w a.Q) (omega (arith, figure 0 (entry 3 g)));
          division = by_numbers _ _ (entry 0 g);
          short = omega (arith, figure 0 (entry 3 g));
          next = by_numbers _ _ (entry 1 g);
          split = by_numbers _ _ (entry 2 g);
        };
        standard_to = form_is t.Q₁ t.P₁ t.to h;
        far_is = refl;
      }

    -- a stretch of the line: each step with the distance that it leads to
    abbrev pub stretch_left : ℕ → Written → List (Turn × ℕ) → List (List (List ℕ))
    stretch_left δ a [] = []
    stretch_left δ a (t ∷ ts) = turn_left a t.0 ∷ form_left t.0.Q₁ t.0.P₁ t.0.to
        ∷ (((t.1 + len (w a.Q)) ∷ []) ∷ []) ∷ stretch_left t.1 t.0.to.ideal ts

    abbrev pub stretch_right : ℕ → Written → List (Turn × ℕ) → List (List (List ℕ))
    stretch_right δ a [] = []
    stretch_right δ a (t ∷ ts) = turn_right a t.0 ∷ form_right t.0.Q₁ t.0.P₁ t.0.to
        ∷ (((δ + len (w t.0.P₁ ⊕ d)) ∷ []) ∷ []) ∷ stretch_right t.1 t.0.to.ideal ts

    abbrev pub stretch_cases : ℕ → List (Turn × ℕ) → List Case
    stretch_cases i [] = []
    stretch_cases i (t ∷ ts) = line_at i t.0.to.ideal t.1 ∷ stretch_cases (suc i) ts

    pub stretch : (ts : List (Turn × ℕ)) (i δ : ℕ) (a : Written) (x : Ideal r D) → Line (K L) S i x δ → Shows L S x a
        → stretch_left δ a ts ≡ stretch_right δ a ts → AllByRecursion (Holds L S) (stretch_cases (suc i) ts)
    stretch [] i δ a x l σ h = tt
    stretch (t ∷ ts) i δ a x l σ h =
        let g = part 1 h in
        let y = form_ideal t.0.Q₁ t.0.P₁ t.0.to g in
        let shows = form_shows t.0.Q₁ t.0.P₁ t.0.to g in
        let step = turn_is a t.0 x σ (part 0 h) g in
        let k : Line (K L) S (suc i) y t.1 = next l step (omega (arith, ap len σ.Q_is, figure 0 (entry 0 (part 2 h)))) in
        ((y, shows, k), stretch ts (suc i) t.1 t.0.to.ideal y k shows (ap (λ (l : List (List (List ℕ))). rest (rest (rest l))) h))
      where
        rest : List (List (List ℕ)) → List (List (List ℕ))
        rest [] = []
        rest (_ ∷ l) = l

    -- a written ideal by itself: (D − P·P) / Q is C
    abbrev pub given : Written → List ℕ → Form
    given a C = record { ideal = a; c = 1 ∷ []; e = 1 ∷ []; q = []; C = C }

    -- what a product of the written ideals a and b claims, and that of its standard form; Ca and Cb are (D − P·P) / Q
    module _ (a b : Written) (Ca Cb : List ℕ) (μ : Merge) where
      abbrev pub merge_left : List (List (List ℕ))
      merge_left =
          (numbers (w μ.s) ∷ numbers (w a.Q) ∷ numbers (w b.Q) ∷ numbers (w a.P ⊕ w b.P)
          ∷ numbers (w a.Q ⊗ w b.Q) ∷ numbers (w μ.s ⊗ w μ.Pc) ∷ [])
          ∷ form_left a.Q a.P (given a Ca) ∷ form_left b.Q b.P (given b Cb) ∷ form_left μ.Qc μ.Pc μ.to ∷ []

      abbrev pub merge_right : List (List (List ℕ))
      merge_right =
          (numbers (w μ.X ⊗ w a.Q ⊕ w μ.Z ⊗ w b.Q ⊕ w μ.Y ⊗ (w a.P ⊕ w b.P))
          ∷ numbers (w μ.A ⊗ w μ.s) ∷ numbers (w μ.B ⊗ w μ.s) ∷ numbers (w μ.E ⊗ w μ.s)
          ∷ numbers (w μ.s ⊗ w μ.s ⊗ w μ.Qc)
          ∷ numbers (w μ.X ⊗ w a.Q ⊗ w b.P ⊕ w μ.Z ⊗ w b.Q ⊗ w a.P ⊕ w μ.Y ⊗ (w a.P ⊗ w b.P ⊕ D)) ∷ [])
          ∷ form_right a.Q a.P (given a Ca) ∷ form_right b.Q b.P (given b Cb) ∷ form_right μ.Qc μ.Pc μ.to ∷ []

      module _ (h : merge_left ≡ merge_right) where
        abbrev pub merge_a : Ideal r D
        merge_a = form_ideal a.Q a.P (given a Ca) (part 1 h)

        abbrev pub merge_b : Ideal r D
        merge_b = form_ideal b.Q b.P (given b Cb) (part 2 h)

        abbrev pub merge_whole : Ideal r D
        merge_whole = form_ideal μ.Qc μ.Pc μ.to (part 3 h)

        pub merge_product : Product (K L) S merge_a merge_b (w μ.s) (w μ.Qc) (w μ.Pc)
        merge_product = record {
          X = w μ.X;
          Y = w μ.Y;
          Z = w μ.Z;
          is = by_numbers _ _ (entry 0 (part 0 h));
          div_a = (w μ.A, by_numbers _ _ (entry 1 (part 0 h)));
          div_b = (w μ.B, by_numbers _ _ (entry 2 (part 0 h)));
          div_p = (w μ.E, by_numbers _ _ (entry 3 (part 0 h)));
          Q_is = by_numbers _ _ (entry 4 (part 0 h));
          P_is = by_numbers _ _ (entry 5 (part 0 h));
        }

        -- the case, where the product reduces to c
        pub merge_case : (c : Written) (z : Ideal r D) → Shows L S z c → (n saved : ℕ) → Reduces (K L) S merge_whole z saved
            → n + 1 ≡ len (w μ.s) + saved → Holds L S (product_to a b c n)
        merge_case c z σ n saved ρ e = (
          merge_a,
          form_shows a.Q a.P (given a Ca) (part 1 h),
          (
            merge_b,
            form_shows b.Q b.P (given b Cb) (part 2 h),
            (
              z,
              σ,
              record {
                s = w μ.s;
                Qc = w μ.Qc;
                Pc = w μ.Pc;
                whole = merge_whole;
                saved = saved;
                is_product = merge_product;
                is_standard = form_is μ.Qc μ.Pc μ.to (part 3 h);
                is_reduced = ρ;
                shortfall = e;
              },
            ),
          ),
        )
