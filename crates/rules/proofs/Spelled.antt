-- A polynomial's body is read back as the polynomial.
use Rattle.std.proofs.Common.{◌≡◌, ℕ, ◌*◌, ◌<◌, ◌≤◌, ◌≢◌, List, [], ◌∷◌, ◌++◌, map, reverse, length, sym, refl, ap, ◌∙◌, subst, arith}
use mathlib.Core.List.{reverse-reverse, reverse-cons}
use lib.ListN.{length-map, length-reverse}
use Rattle.field.specs.Meaning.{Meaning, Lawful}
use Rattle.algebra.specs.Codes.{Code, code, code_ext, ring_c, codes, R, K}
use Rattle.ring.proofs.Ring.{CommRing}
use Rattle.ring.proofs.Coeffs.{Trim}
use Rattle.ring.proofs.Poly.{poly, coef_poly, ext}
use Rattle.ring.proofs.PolyModel.{poly_ring}
use Rattle.algebra.proofs.Written.{codes_numbers}
use Rattle.rules.specs.Questions.{Hold}
use Rattle.std.specs.List.{AllByRecursion}
use Rattle.rules.specs.Packets.{words, Leads, body_asks, spell}
use Rattle.rules.specs.Settings.{body_of, poly_of}
use Rattle.rules.specs.Places.{codes_of, poly_from}
use Rattle.rules.proofs.Written.{spell_length, words_spell}

-- the last element of a trimmed list is not zero
trim_snoc : {C : Type 0} (r : CommRing C) (l : List C) (c : C) → Trim r (l ++ (c ∷ [])) → c ≢ r.𝟘
trim_snoc r [] c t = t
trim_snoc r (a ∷ []) c t = t
trim_snoc r (a ∷ (b ∷ l)) c t = trim_snoc r (b ∷ l) c t

all_weaken : (p q : ℕ) → p ≤ q → (ns : List ℕ) → AllByRecursion (λ c. c < p) ns → AllByRecursion (λ c. c < q) ns
all_weaken p q h [] a = tt
all_weaken p q h (n ∷ ns) a = (let l = a.0 in omega arith, all_weaken p q h ns a.1)

module _ {M : Meaning} (L : Lawful M) where
  abbrev nums : List (Code M) → List ℕ
  nums = map (λ (c : Code M). c.num)

  pub len_list : (p : R L) → (K L).len p ≡ length p.list
  unfolding poly_ring
  len_list p = refl

  nums_low : (l : List (Code M)) → AllByRecursion (λ c. c < M.size) (nums l)
  nums_low [] = tt
  nums_low (c ∷ l) = (c.low, nums_low l)

  nums_words : (l : List (Code M)) → words (spell (nums l)) ≡ nums l
  nums_words l = words_spell (nums l) (all_weaken M.size 4294967296 (let h = L.high in omega arith) (nums l) (nums_low l))

  not_zero : (c : Code M) → c ≢ (ring_c L).𝟘 → c.num ≢ 0
  unfolding ring_c
  not_zero c h e = h (code_ext c (ring_c L).𝟘 e)

  leads : (l r : List (Code M)) → l ≡ reverse r → Trim (ring_c L) l → Leads (nums r)
  leads l [] e t = tt
  leads l (c ∷ r) e t = not_zero c (trim_snoc (ring_c L) (reverse r) c (subst (Trim (ring_c L)) (e ∙ reverse-cons c r) t))

  pub body_length : (p : R L) → length (body_of L p) ≡ 4 * (K L).len p
  body_length p = omega (arith, spell_length (nums (reverse p.list)), length-map (reverse p.list) (λ (c : Code M). c.num), length-reverse p.list, len_list p)

  pub body_words : (p : R L) → words (body_of L p) ≡ nums (reverse p.list)
  body_words p = nums_words (reverse p.list)

  -- questions 14 to 16
  pub body_holds : (p : R L) → Hold (body_asks M.size (body_of L p))
  body_holds p = (
    omega (arith, body_length p),
    (
      rw (body_words p) (nums_low (reverse p.list)),
      (rw (body_words p) (leads p.list (reverse p.list) (sym (reverse-reverse p.list)) p.trim), tt),
    ),
  )

  poly_list : (p : R L) → poly (codes L) p.list ≡ p
  poly_list p = ext (codes L) (poly (codes L) p.list) p (coef_poly (codes L) p.list)

  -- its codes are read back
  pub codes_low : (p : R L) → AllByRecursion (λ c. c < M.size) (codes_of L p)
  codes_low p = nums_low (reverse p.list)

  pub codes_read : (p : R L) → poly_from L (codes_of L p) ≡ p
  codes_read p =
      ap (λ (l : List (Code M)). poly (codes L) (reverse l)) (codes_numbers L (reverse p.list))
      ∙ ap (poly (codes L)) (reverse-reverse p.list)
      ∙ poly_list p

  pub body_read : (p : R L) → poly_of L (body_of L p) ≡ p
  body_read p =
      ap (λ (ns : List ℕ). poly (codes L) (reverse (map (code L) ns))) (body_words p) ∙ codes_read p
