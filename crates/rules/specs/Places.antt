-- Find and add: places handed in and given out. Both leave the end unchanged.
use Rattle.std.specs.Prelude.{◌≡◌, ℕ, ◌+◌, ◌<◌, ◌≤◌, List, [], ◌∷◌, ◌++◌, map, reverse, length}
use Rattle.field.specs.Meaning.{Meaning, Lawful}
use Rattle.algebra.specs.Codes.{Code, code, codes, R, K}
use Rattle.ring.proofs.Poly.{poly}
use Rattle.rules.specs.Questions.{Question, ◌if_not◌}
use Rattle.std.specs.List.{AllByRecursion}
use Rattle.rules.specs.Packets.{number}
use Rattle.rules.specs.Settings.{Accepted, setting}
use Rattle.rules.specs.Ends.{State, blank, ready, opened, keyed, ideal_asks}
use Rattle.algebra.specs.Places.{Place, Adds}
use Rattle.algebra.specs.Lines.{PlaceAt}

-- a place as it is handed in and given out: the codes of Q and of P, the highest degree first, and the offset
pub record Given : Type 0 where
  pub Q : List ℕ
  pub P : List ℕ
  pub off : ℕ

module _ {M : Meaning} (L : Lawful M) where
  abbrev pub codes_of : R L → List ℕ
  codes_of p = map (λ (c : Code M). c.num) (reverse p.list)

  abbrev pub poly_from : List ℕ → R L
  poly_from cs = poly (codes L) (reverse (map (code L) cs))

  abbrev pub Places : Accepted L → Type 0
  Places A = Place (K L) (setting L A)

  -- the place p is given as g
  abbrev pub Shows : (A : Accepted L) → Places A → Given → Type 0
  Shows A p g = (g.Q ≡ codes_of p.ideal.Q) × (g.P ≡ codes_of p.ideal.P) × (g.off ≡ p.off)

  -- g is read as the place p
  abbrev pub Means : (A : Accepted L) → Given → Places A → Type 0
  Means A g p = (p.ideal.Q ≡ poly_from g.Q) × (p.ideal.P ≡ poly_from g.P) × (p.off ≡ g.off)

  -- the questions of a place: 15, 40 to 43, and: is the offset below m − deg Q? If not, 46
  abbrev pub Low : Given → Type 0
  Low g = AllByRecursion (λ c. c < M.size) g.Q × AllByRecursion (λ c. c < M.size) g.P

  abbrev pub place_asks : Accepted L → Given → List Question
  place_asks A g =
      (Low g if_not 15)
      ∷ ideal_asks L A (poly_from g.Q) (poly_from g.P)
      ++ (g.off + (K L).len (poly_from g.Q) ≤ A.m if_not 46)
      ∷ []

  abbrev pub Loaded : State L → Type 0
  Loaded blank = ⊥
  Loaded (ready A) = Unit {0}
  Loaded (opened A a δ) = Unit {0}
  Loaded (keyed A a δ k) = Unit {0}

  -- FIND gives the place of a number
  abbrev pub find_asks : State L → List ℕ → List Question
  find_asks s n = (Loaded s if_not 38) ∷ (((1 ≤ length n) × (length n ≤ 32)) if_not 32) ∷ []

  abbrev pub FindGives : Accepted L → List ℕ → Given → Type 0
  FindGives A n z = (p : Places A) × PlaceAt (K L) (setting L A) (number n) p × Shows A p z

  -- ADD gives the sum of two places
  abbrev pub sum_asks : State L → Given → Given → List Question
  sum_asks blank g h = []
  sum_asks (ready A) g h = place_asks A g ++ place_asks A h
  sum_asks (opened A a δ) g h = place_asks A g ++ place_asks A h
  sum_asks (keyed A a δ k) g h = place_asks A g ++ place_asks A h

  abbrev pub add_asks : State L → Given → Given → List Question
  add_asks s g h = (Loaded s if_not 38) ∷ sum_asks s g h

  abbrev pub Add : (A : Accepted L) → Places A → Places A → Places A → Type 0
  Add A p q x = Adds (K L) (setting L A) p.ideal p.off q.ideal q.off x.ideal x.off

  abbrev pub AddGives : Accepted L → Given → Given → Given → Type 0
  AddGives A g h z = (p : Places A) × (q : Places A) × (x : Places A) × Means A g p × Means A h q × Add A p q x × Shows A x z
