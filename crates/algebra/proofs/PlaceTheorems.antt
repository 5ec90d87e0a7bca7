-- The theorems on places, over any setting: each record gathers what the modules before it prove.
use mathlib.Core.Path.{refl}
use Prim.Native.Nat.{◌+◌}
use Rattle.ring.proofs.PolyRing.{PolyRing}
use Rattle.algebra.specs.Settings.{Setting}
use Rattle.algebra.specs.Places.{place}
use Rattle.algebra.specs.TheoremsOfPlaces.{SumsOfPlaces, LineLaws, PlacesOfLine, SumsOnLine, DoublesOnLine, MultiplesOfPlaces, MultiplesOnLine}
use Rattle.algebra.proofs.Fixed.{reduces_fixed, walks_fixed, adds_fixed}
use Rattle.algebra.proofs.Adds as Adds
use Rattle.algebra.proofs.Group as Group
use Rattle.algebra.proofs.Line as Line
use Rattle.algebra.proofs.Multiples as Multiples

module _ {C R : Type 0} (K : PolyRing C R) (S : Setting K) where
  pub sums_of_places : SumsOfPlaces K S
  sums_of_places = record {
    exists = λ p q. (let (c, h, A) = Adds.adds_exists K S p.ideal p.off q.ideal q.off in (place K S c h, A));
    lawful = λ p q s A. Adds.adds_lawful K S A;
    one_sum = Group.adds_unique K S;
    one_reduction = λ a b c n k ρ σ. reduces_fixed K S refl ρ σ;
    one_walk = λ a b c gap f g ω υ. walks_fixed K S refl refl ω υ;
    one_way = λ p q s t A B. adds_fixed K S A B;
    shortfall = λ p q s A. Adds.adds_shortfall K S A;
    saved = λ a b n ρ. Adds.reduces_saved K S ρ;
    gap = λ p q s A. Adds.adds_gap K S A;
    comm = Group.adds_comm K S;
    assoc = Group.adds_assoc K S;
    zero_left = Group.adds_origin K S;
    zero_right = λ p l. Group.adds_comm K S _ p p (Group.adds_origin K S p l);
  }

  pub line_laws : LineLaws K S
  line_laws = record {
    exists = Line.line_exists K S;
    one_ideal = λ i δ ε a b l k. Line.line_unique K S l k;
    reduced = λ i δ a l. Line.line_reduced K S l;
    standard = λ i δ a l. Line.line_standard K S l;
    rises = λ i δ ε a b l k. Line.line_rises K S l k;
  }

  pub places_of_line : PlacesOfLine K S
  places_of_line = record {
    exists = Line.place_exists K S;
    one_place = λ t p q π ρ. Line.place_unique K S π ρ;
    lawful = λ t p π. Line.place_legal K S π;
    closest_exists = λ t. (let (p, π) = Line.place_exists K S t in (p.ideal, π.distance, Line.place_closest K S π));
    closest_one = λ t δ ε a b c e. Line.closest_unique K S c e;
    is_closest = λ t p π. Line.place_closest K S π;
    from_closest = λ t δ f a c e. Line.closest_at K S c e;
    origin_first = Line.place_origin K S;
  }

  pub sums_on_line : SumsOnLine K S
  sums_on_line = record {
    adds = λ s t p q x π ρ A. Line.place_adds K S p q x π ρ A;
    reaches = λ s t p q x π ρ ξ. Group.adds_of K S p q x (Line.place_legal K S ξ) (Line.sum_place K S p q x π ρ ξ);
  }

  pub doubles_on_line : DoublesOnLine K S
  doubles_on_line = record {
    doubles = λ t e p x π A. Line.adds_place K S e p p x π π A;
    exists = λ e p. (let (c, h, A) = Adds.adds_exists K S p.ideal (p.off + e) p.ideal p.off in (place K S c h, A));
  }

  pub multiples_of_places : MultiplesOfPlaces K S
  multiples_of_places = record {
    exists = Multiples.times_exists K S;
    one_multiple = Multiples.times_unique K S;
    lawful = λ n p q t. Multiples.times_lawful K S t;
    sum = Multiples.times_add K S;
    distributes = Multiples.times_distributes K S;
    nested = Multiples.times_times K S;
  }

  pub multiples_on_line : MultiplesOnLine K S
  multiples_on_line = record {
    multiple = λ n t p q π τ. Multiples.place_times K S π τ;
    meet = λ δ δ' a b x y π ρ τ υ. Multiples.times_meet K S a b x y π ρ τ υ;
  }
