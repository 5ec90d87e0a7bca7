use Rattle.std.proofs.Common.{◌≡◌, ℕ, Bool, List, Decides, nat_eq, get_or, take, sym, ap, ◌∙◌, ap₂, ext_get_or, rules, arith}
use Rattle.std.specs.Cmp.Lexicographic.{pointwise}
use Rattle.std.proofs.lemmas.Bool.Decides.{Decides-eqb}
use Rattle.std.proofs.lemmas.Slice.Eq.{bytes_eq-Decides, slice_eq-Decides}
use Rattle.std.proofs.lemmas.Grind.{common_steps}
use Rattle.poly.specs.Values.{coefficients}
use Rattle.poly.specs.declared.poly.Poly.{Poly}
use Rattle.poly.proofs.Bridge.{coefficients_at, same_size, decides}
use Rattle.poly.proofs.poly.equal.PolyPartialEq.eq.Goals as goal

-- the coefficients up to the length are equal where all are
whole : (p q : Poly) (r : Bool) → r ≡ pointwise nat_eq (coefficients p) (coefficients q) → Decides r (p.raw.coeffs ≡ q.raw.coeffs)
whole p q r e =
    let d = slice_eq-Decides Decides-eqb (coefficients p) (coefficients q) r e in (
      (λ t. ext_get_or 0 p.raw.coeffs q.raw.coeffs (p.long ∙ sym q.long) (λ k _. sym (coefficients_at p k) ∙ ap (λ xs. get_or xs k 0) (d.0 t) ∙ coefficients_at q k)),
      λ f. d.1 (ap₂ take (same_size p q f) f),
    )

-- what decides that two lists are equal is the comparison of their elements
compared : (xs ys : List ℕ) (r : Bool) → Decides r (xs ≡ ys) → r ≡ pointwise nat_eq xs ys
compared xs ys r h = search (rules, bytes_eq-Decides)

pub returns : goal.returns
returns c =
    let e : c.eq.result ≡ pointwise nat_eq (coefficients c.args.self.now) (coefficients c.args.other.now) = grind (arith, common_steps) in
    let d = whole c.args.self.now c.args.other.now c.eq.result e in
    record { value = compared _ _ _ d; decides = d; same = decides c.args.self.now c.args.other.now c.eq.result d }
