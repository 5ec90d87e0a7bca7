-- Quoting by `search`: `Q R xs x` says that x is written with the ring's operations from the elements of xs, and how.
-- `search quote depth 20` finds such a writing for the two sides of the goal, so that `auto` needs no expression from the user.
use mathlib.Core.Path.{◌≡◌, refl, sym, ◌∙◌, ap, ap₂}
use mathlib.Core.List.{List, ◌∷◌}
use mathlib.Core.Bool.{Bool}
use Prim.Native.Nat.{ℕ}
use lib.Dec.{T}
use Rattle.ring.proofs.Ring.{CommRing}
use Rattle.ring.proofs.Solver.{Expr, var, lit, ◌:+◌, ◌:-◌, ◌:*◌, :-◌, nf, is_z, ev, at, solve}

pub data Q {C : Type 0} (R : CommRing C) (xs : List C) : C → Type 0 where
  q_atom : (i : ℕ) → Q R xs (at R xs i)
  q_zero : Q R xs R.𝟘
  q_one : Q R xs R.𝟙
  q_add : {x y : C} → Q R xs x → Q R xs y → Q R xs (R.◌⊕◌ x y)
  q_mul : {x y : C} → Q R xs x → Q R xs y → Q R xs (R.◌⊗◌ x y)
  q_neg : {x : C} → Q R xs x → Q R xs (R.⊖◌ x)

abbrev pub expr : {C : Type 0} {R : CommRing C} {xs : List C} {x : C} → Q R xs x → Expr
expr (q_atom i) = var i
expr q_zero = lit 0
expr q_one = lit 1
expr (q_add p q) = expr p :+ expr q
expr (q_mul p q) = expr p :* expr q
expr (q_neg p) = :- expr p

pub expr_ev : {C : Type 0} {R : CommRing C} {xs : List C} {x : C} (p : Q R xs x) → ev R (at R xs) (expr p) ≡ x
expr_ev (q_atom i) = refl
expr_ev q_zero = refl
expr_ev q_one = refl
expr_ev {R = R} (q_add p q) = ap₂ R.◌⊕◌ (expr_ev p) (expr_ev q)
expr_ev {R = R} (q_mul p q) = ap₂ R.◌⊗◌ (expr_ev p) (expr_ev q)
expr_ev {R = R} (q_neg p) = ap R.⊖◌ (expr_ev p)

-- one name for each place of the list: going down it by two rules (first, later) takes more steps than `search` allows
module _ {C : Type 0} {R : CommRing C} where
  abbrev pub v0 : {a : C} {xs : List C} → Q R (a ∷ xs) a
  v0 = q_atom 0

  abbrev pub v1 : {a b : C} {xs : List C} → Q R (a ∷ b ∷ xs) b
  v1 = q_atom 1

  abbrev pub v2 : {a b c : C} {xs : List C} → Q R (a ∷ b ∷ c ∷ xs) c
  v2 = q_atom 2

  abbrev pub v3 : {a b c d : C} {xs : List C} → Q R (a ∷ b ∷ c ∷ d ∷ xs) d
  v3 = q_atom 3

  abbrev pub v4 : {a b c d e : C} {xs : List C} → Q R (a ∷ b ∷ c ∷ d ∷ e ∷ xs) e
  v4 = q_atom 4

  abbrev pub v5 : {a b c d e f : C} {xs : List C} → Q R (a ∷ b ∷ c ∷ d ∷ e ∷ f ∷ xs) f
  v5 = q_atom 5

  abbrev pub v6 : {a b c d e f g : C} {xs : List C} → Q R (a ∷ b ∷ c ∷ d ∷ e ∷ f ∷ g ∷ xs) g
  v6 = q_atom 6

  abbrev pub v7 : {a b c d e f g h : C} {xs : List C} → Q R (a ∷ b ∷ c ∷ d ∷ e ∷ f ∷ g ∷ h ∷ xs) h
  v7 = q_atom 7

  abbrev pub v8 : {a b c d e f g h i : C} {xs : List C} → Q R (a ∷ b ∷ c ∷ d ∷ e ∷ f ∷ g ∷ h ∷ i ∷ xs) i
  v8 = q_atom 8

  abbrev pub v9 : {a b c d e f g h i j : C} {xs : List C} → Q R (a ∷ b ∷ c ∷ d ∷ e ∷ f ∷ g ∷ h ∷ i ∷ j ∷ xs) j
  v9 = q_atom 9

  abbrev pub v10 : {a b c d e f g h i j k : C} {xs : List C} → Q R (a ∷ b ∷ c ∷ d ∷ e ∷ f ∷ g ∷ h ∷ i ∷ j ∷ k ∷ xs) k
  v10 = q_atom 10

  abbrev pub v11 : {a b c d e f g h i j k l : C} {xs : List C} → Q R (a ∷ b ∷ c ∷ d ∷ e ∷ f ∷ g ∷ h ∷ i ∷ j ∷ k ∷ l ∷ xs) l
  v11 = q_atom 11

  abbrev pub v12 : {a b c d e f g h i j k l m : C} {xs : List C} → Q R (a ∷ b ∷ c ∷ d ∷ e ∷ f ∷ g ∷ h ∷ i ∷ j ∷ k ∷ l ∷ m ∷ xs) m
  v12 = q_atom 12

  abbrev pub v13 : {a b c d e f g h i j k l m n : C} {xs : List C} → Q R (a ∷ b ∷ c ∷ d ∷ e ∷ f ∷ g ∷ h ∷ i ∷ j ∷ k ∷ l ∷ m ∷ n ∷ xs) n
  v13 = q_atom 13

  abbrev pub v14 : {a b c d e f g h i j k l m n o : C} {xs : List C} → Q R (a ∷ b ∷ c ∷ d ∷ e ∷ f ∷ g ∷ h ∷ i ∷ j ∷ k ∷ l ∷ m ∷ n ∷ o ∷ xs) o
  v14 = q_atom 14

  abbrev pub v15 : {a b c d e f g h i j k l m n o p : C} {xs : List C} → Q R (a ∷ b ∷ c ∷ d ∷ e ∷ f ∷ g ∷ h ∷ i ∷ j ∷ k ∷ l ∷ m ∷ n ∷ o ∷ p ∷ xs) p
  v15 = q_atom 15

  abbrev pub v16 : {a b c d e f g h i j k l m n o p q : C} {xs : List C} → Q R (a ∷ b ∷ c ∷ d ∷ e ∷ f ∷ g ∷ h ∷ i ∷ j ∷ k ∷ l ∷ m ∷ n ∷ o ∷ p ∷ q ∷ xs) q
  v16 = q_atom 16

  abbrev pub v17 : {a b c d e f g h i j k l m n o p q r : C} {xs : List C} → Q R (a ∷ b ∷ c ∷ d ∷ e ∷ f ∷ g ∷ h ∷ i ∷ j ∷ k ∷ l ∷ m ∷ n ∷ o ∷ p ∷ q ∷ r ∷ xs) r
  v17 = q_atom 17

  abbrev pub v18 : {a b c d e f g h i j k l m n o p q r s : C} {xs : List C} → Q R (a ∷ b ∷ c ∷ d ∷ e ∷ f ∷ g ∷ h ∷ i ∷ j ∷ k ∷ l ∷ m ∷ n ∷ o ∷ p ∷ q ∷ r ∷ s ∷ xs) s
  v18 = q_atom 18

  abbrev pub v19 : {a b c d e f g h i j k l m n o p q r s t : C} {xs : List C} → Q R (a ∷ b ∷ c ∷ d ∷ e ∷ f ∷ g ∷ h ∷ i ∷ j ∷ k ∷ l ∷ m ∷ n ∷ o ∷ p ∷ q ∷ r ∷ s ∷ t ∷ xs) t
  v19 = q_atom 19

-- the two sides of an equation
pub data Sides {C : Type 0} (R : CommRing C) (xs : List C) : C → C → Type 0 where
  sides : {x y : C} → Q R xs x → Q R xs y → Sides R xs x y

pub ruleset quote = (sides, v0, v1, v2, v3, v4, v5, v6, v7, v8, v9, v10, v11, v12, v13, v14, v15, v16, v17, v18, v19, q_zero, q_one, q_add, q_mul, q_neg)

abbrev pub holds : {C : Type 0} {R : CommRing C} {xs : List C} {x y : C} → Sides R xs x y → Bool
holds (sides p q) = is_z (nf (expr p :- expr q))

-- `auto R (a ∷ b ∷ []) (search quote depth 20) tt` proves an equation between terms in a and b
pub auto : {C : Type 0} (R : CommRing C) (xs : List C) {x y : C} (s : Sides R xs x y) → T (holds s) → x ≡ y
auto R xs (sides p q) t = sym (expr_ev p) ∙ solve R (at R xs) (expr p) (expr q) t ∙ expr_ev q
