-- The theorems on polynomials, over any field: each record gathers what the crate of rings proves.
use mathlib.Core.Path.{refl, sym, ◌∙◌}
use native.Mathlib.Omega.{arith}
use Rattle.ring.proofs.Field.{Field}
use Rattle.ring.proofs.Poly as Poly
use Rattle.ring.proofs.Poly.{Polynomials}
use Rattle.ring.proofs.Sizes as Sizes
use Rattle.ring.proofs.Divide.{quo, rem, quo_rem, rem_len, make_monic}
use Rattle.ring.proofs.Derive.{coef_der, der_add, der_mul}
use Rattle.ring.proofs.PolyModel.{poly_ring}
use Rattle.ring.proofs.Lengths.{longer, domain, pos_len}
use Rattle.ring.proofs.Euclid.{gcd, remainder_unique, quotient_unique, divides_combination, square_shared, no_square, common_len}
use Rattle.algebra.specs.TheoremsOfPolynomials.{Operations, RingLaws, Coefficients, Lengths, Leading, Divisions, Gcds, Derivatives, SquareFactors}

module _ {C : Type 0} (F : Field C) where
  pub operations : Operations F
  unfolding Polynomials
  operations = record {
    zero = λ n. refl;
    one = refl;
    one_past = λ n. refl;
    sum = Poly.coef_add F;
    opposite = Poly.coef_neg F;
    product = Poly.coef_conv F;
  }

  pub ring_laws : RingLaws F
  ring_laws = let r = Polynomials F in record {
    sum_assoc = r.⊕-assoc;
    sum_comm = r.⊕-comm;
    sum_zero = r.⊕-zero;
    sum_opposite = r.⊕-neg;
    product_assoc = r.⊗-assoc;
    product_comm = r.⊗-comm;
    product_one = r.⊗-one;
    distributes = r.⊗-dist;
  }

  pub coefficients : Coefficients F
  coefficients = record { decide = Poly.ext F; past = Sizes.coef_past F; least = Sizes.len_le F }

  pub lengths : Lengths F
  unfolding Polynomials poly_ring
  lengths = record {
    empty = Sizes.zero_len F;
    sum = Sizes.len_add F;
    sum_longer = longer (poly_ring F);
    opposite = Sizes.len_neg F;
    product = Sizes.len_mul F;
    no_zero_divisors = domain (poly_ring F);
  }

  pub leading : Leading F
  unfolding Polynomials
  leading = record {
    alive = Sizes.coef_top F;
    product = λ p q n k e h. Sizes.coef_mul F p q n k (omega arith) (omega arith);
    monic = make_monic F;
  }

  pub divisions : Divisions F
  unfolding Polynomials poly_ring
  divisions = record {
    exists = λ a b h. record { q = quo F a b; s = rem F a b; is = quo_rem F a b; short = rem_len F a b h };
    one_quotient = λ a b δ ε. quotient_unique (poly_ring F) b δ.q δ.s ε.q ε.s
        (pos_len (poly_ring F) b (omega (arith, δ.short))) (sym δ.is ∙ ε.is) δ.short ε.short;
    one_remainder = λ a b δ ε. remainder_unique (poly_ring F) b δ.q δ.s ε.q ε.s (sym δ.is ∙ ε.is) δ.short ε.short;
  }

  pub gcds : Gcds F
  unfolding Polynomials poly_ring
  gcds = record {
    exists = λ a b. (let g = gcd (poly_ring F) a b in record { g = g.g; x = g.x; y = g.y; is = g.is; left = g.left; right = g.right });
    greatest = λ a b c β h i. (let d = divides_combination (poly_ring F) a b β.x β.y c h i in (d.0, β.is ∙ d.1));
  }

  pub derivatives : Derivatives F
  unfolding Polynomials
  derivatives = record { coefficient = coef_der F; sum = der_add F; product = der_mul F }

  pub square_factors : SquareFactors F
  unfolding Polynomials poly_ring
  square_factors = record {
    divides = square_shared (poly_ring F);
    constant = λ D x y g h e. no_square (poly_ring F) D (λ c. common_len (poly_ring F) D ((poly_ring F).der D) x y c e) g h;
  }
