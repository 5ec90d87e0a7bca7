use Rattle.std.specs.Prelude.{◌↔◌, EachIndex, IsTrue, slice_index}
use Rattle.std.proofs.Common.{◌≡◌, ℕ, ◌<◌, length, sym, subst, arith, rules}
use Rattle.std.proofs.lemmas.List.{get_or-take, length-take-le}
use Rattle.poly.specs.Values.{size, coefficients}
use Rattle.poly.specs.declared.poly.Poly.{Poly}
use Rattle.end.proofs.Placing.{low_from, low_at}
use Rattle.end.proofs.end.places.in_field.Goals as goal

pub returns : goal.returns
returns g c =
    let p : Poly = c.args.p.now in
    let q : ℕ = (g.F.Field.meaning c.args.f.now).size in
    let each : IsTrue c.all.result ↔ EachIndex (coefficients p) (λ k. slice_index (coefficients p) k < q) = search rules in
    let n : length (coefficients p) ≡ size p = length-take-le (size p) _ (let a = p.short in let b = p.long in omega arith) in (
      (λ yes. low_from q p (λ k l. subst (λ (x : ℕ). x < q) (get_or-take (size p) _ k 0 l) (each.0 yes k (omega arith)))),
      (λ low. each.1 (λ k l. (let within : k < size p = omega arith in
          subst (λ (x : ℕ). x < q) (sym (get_or-take (size p) _ k 0 within)) (low_at q p low k within)))),
    )
