use Rattle.std.proofs.Common.{◌≡◌, ℕ, ◌*◌, ◌<◌, ◌≤◌, Bool, true, false, MatchBool, ◌≢◌, length, refl, sym, ap, ◌∙◌, subst, zero-add, rules, tests, arith}
use Rattle.std.specs.List.{range_with_len, AllWithin, HoldsAt}
use Rattle.std.proofs.lemmas.Iterator.{cases_from_any, YieldsList-from_range}
use Rattle.std.proofs.lemmas.List.FromFn.{length-range_with_len, get_or-range_with_len}
use Rattle.field.specs.Meaning.{Meaning, Lawful}
use Rattle.field.specs.Extensions.{ext_meaning, extended, Extends}
use Rattle.field.proofs.ExtensionLaws.{extension_lawful}
use Rattle.field.proofs.extension.Extension.new.Goals as goal

-- where no number below q passes
none_passes : (Yes No : ℕ → Type 0) (q : ℕ) (r : Bool) →
    MatchBool r ((k : ℕ) × (k < length (range_with_len 0 q)) × HoldsAt Yes (range_with_len 0 q) k) (AllWithin No (range_with_len 0 q) 0 (length (range_with_len 0 q))) →
    r ≡ false → (x : ℕ) → x < q → No x
none_passes Yes No q true some e x h = cc
none_passes Yes No q false none e x h =
    subst No (get_or-range_with_len 0 q x 0 h ∙ zero-add x) (none x 0 (omega arith) (omega (arith, length-range_with_len 0 q)))

pub returns : goal.returns
returns g c =
    let m : Meaning = g.F.Field.meaning c.args.base in
    let e : c.size-q.result ≡ m.size = c.size-q.ensures in
    let root = λ (x : ℕ). m.product x x ≡ c.args.n in
    let no_root = λ (x : ℕ). m.product x x ≢ c.args.n in
    let cases = cases_from_any _ _ c.any.result root no_root c.any.ensures.ran
    (YieldsList-from_range 0 c.size-q.result c.size-q.result refl (omega arith)) (λ x q k. search (rules, tests)) (λ x q k. search (rules, tests)) in
    let extends : Extends m c.args.n = record {
      small = subst (λ (q : ℕ). q * q ≤ 2147483647) e c.if-q-gt-MOST.false;
      code = omega arith;
      no_root = λ x h. none_passes root no_root c.size-q.result _ cases c.if-any.false x (omega arith);
    } in
    let same : ext_meaning m c.size-q.result c.args.n ≡ extended m c.args.n = ap (λ (q : ℕ). ext_meaning m q c.args.n) e in
    (extends, same, λ lawful. subst Lawful (sym same) (extension_lawful lawful c.args.n extends))
