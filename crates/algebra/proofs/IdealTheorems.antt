-- The theorems on the ring of u + v·y and its ideals, over any setting: each record gathers what the modules before it prove.
use mathlib.Core.Path.{◌≡◌, refl}
use mathlib.Core.List.{[], ◌∷◌}
use native.Mathlib.Omega.{arith}
use Rattle.ring.proofs.Quote.{quote, auto}
use Rattle.ring.proofs.PolyRing.{PolyRing}
use Rattle.ring.proofs.Order.{mk, norm_is, norm_mul}
use Rattle.algebra.specs.Settings.{Setting}
use Rattle.algebra.specs.Equivalence.{site}
use Rattle.algebra.specs.TheoremsOfIdeals.{QuadraticRing, IdealsAsSets, BabySteps, ProductsOfIdeals, EquivalenceLaws}
use Rattle.algebra.proofs.Degrees.{degree, norm_alive}
use Rattle.algebra.proofs.Step as Step
use Rattle.algebra.proofs.Product as Product
use Rattle.algebra.proofs.Sites.{~-refl, ~-sym, ~-trans, ⊙-cong}
use Rattle.algebra.proofs.Unique as Unique
use Rattle.algebra.proofs.Fixed.{standard_unique, step_fixed, gcd_len, gcd_unique, product_fixed}
use Rattle.algebra.proofs.Adds.{step-~, product-~}

module _ {C R : Type 0} (K : PolyRing C R) (S : Setting K) where
  open K use {r}
  open S use {D}
  open r use {𝟘, 𝟙}

  pub quadratic_ring : QuadraticRing K S
  quadratic_ring = record {
    root = λ i. mk (square i) (cross i);
    no_zero_divisors = (degree K S).domain;
    norm_is = norm_is r D;
    norm_product = norm_mul r D;
    norm_alive = norm_alive K S;
  }
    where
      square : r.◌⊕◌ (r.◌⊗◌ 𝟘 𝟘) (r.◌⊗◌ (r.◌⊗◌ 𝟙 𝟙) D) ≡ D
      square = auto r (D ∷ []) (search quote depth 20) tt

      cross : r.◌⊕◌ (r.◌⊗◌ 𝟘 𝟙) (r.◌⊗◌ 𝟙 𝟘) ≡ 𝟘
      cross = auto r (D ∷ []) (search quote depth 20) tt

  pub ideals_as_sets : IdealsAsSets K S
  ideals_as_sets = record {
    standard = Step.standard_form K S;
    same_set = λ Q P b ν ζ. (Step.standard-⊆ K S Q P b ν ζ, Step.standard-⊇ K S Q P b ν ζ);
    set_decides = standard_unique K S;
  }

  pub baby_steps : BabySteps K S
  baby_steps = record {
    exists = Step.step_exists K S;
    one_step = λ a b c far far' σ τ. step_fixed K S σ τ;
    into = λ a b far σ. Step.step_to K S σ;
    onto = λ a b far σ. Step.step_from K S σ;
    moves = λ a b far f g σ e. step-~ K S σ f 0 g 0 (omega arith);
    reduced_far = λ a b far σ. Step.step_far K S σ;
    reduced_next = λ a b far σ. Step.step_reduced K S σ;
    large_far = λ a b far σ h. Step.step_big K S σ (omega arith);
    large_falls = λ a b far σ h. Step.step_falls_2 K S σ (omega arith);
    edge_falls = λ a b far σ. Step.step_edge K S σ;
  }

  pub products_of_ideals : ProductsOfIdeals K S
  products_of_ideals = record {
    multipliers = λ a b. (let (s, X, Y, Z, is, div_a, div_b, div_p) = Product.multipliers K S a b in
        (s, X, Y, Z, record { is = is; div_a = div_a; div_b = div_b; div_p = div_p }));
    exists = λ a b s X Y Z μ. (
      Product.product_Q K S a b s X Y Z μ.is μ.div_a μ.div_b μ.div_p,
      Product.product_P K S a b s X Y Z μ.is μ.div_a μ.div_b μ.div_p,
      Product.product_with K S a b s X Y Z μ.is μ.div_a μ.div_b μ.div_p,
      refl,
      refl,
      refl,
    );
    alive = Product.product_alive K S;
    exact = Product.product_exact K S;
    into = Product.product_to K S;
    onto = Product.product_from K S;
    moves = λ a b s Qc Pc c f g h π ν e. product-~ K S a b s Qc Pc π c ν f 0 g 0 h 0 (omega arith);
    length = Product.product_len K S;
    one_degree = gcd_len K S;
    one_divisor = gcd_unique K S;
    one_ideal = product_fixed K S;
  }

  pub equivalence_laws : EquivalenceLaws K S
  equivalence_laws = record {
    reflexive = λ a f f'. ~-refl K S (site K S a f f');
    symmetric = λ a b f f' g g' E. ~-sym K S E;
    transitive = λ a b c f f' g g' h h' E F. ~-trans K S E F;
    products = λ a b c e f f' g g' h h' k k' E F. ⊙-cong K S E F;
    unique = Unique.unique K S;
  }
