use Rattle.std.proofs.Common.{◌≡◌, ◌%◌, ◌<◌, ◌≤◌, length, sym, ◌∙◌, refl, inl, inr, rules, tests}
use Rattle.std.proofs.lemmas.Iterator.{cases_from_any, YieldsList-from_slice}
use Rattle.packet.proofs.Words.{word, zeros_lead, lead_zeros, some_large}
use Rattle.packet.proofs.codes.ask.Goals as goal

pub returns-then-any : goal.returns-then-any
returns-then-any c =
    let n : length c.args.body.now % 4 ≡ 0 = search (rules, tests) in
    let large = some_large c.args.body.now c.args.q c.as_chunks.result.0.now c.any.result c.as_chunks.ensures.front
    (cases_from_any _ _ _ (λ w. c.args.q ≤ word w) (λ w. word w < c.args.q) c.any.ensures.ran (YieldsList-from_slice c.as_chunks.result.0.now cc) (λ x q k. search (rules, tests)) (λ x q k. search (rules, tests))) in
    inl (n, inr (large.0 c.if-any.true, refl))

pub returns-then-starts_with : goal.returns-then-starts_with
returns-then-starts_with c =
    let n : length c.args.body.now % 4 ≡ 0 = search (rules, tests) in
    let large = some_large c.args.body.now c.args.q c.as_chunks.result.0.now c.any.result c.as_chunks.ensures.front
    (cases_from_any _ _ _ (λ w. c.args.q ≤ word w) (λ w. word w < c.args.q) c.any.ensures.ran (YieldsList-from_slice c.as_chunks.result.0.now cc) (λ x q k. search (rules, tests)) (λ x q k. search (rules, tests))) in
    inl (n, inl (large.1 c.if-any.false, inr (zeros_lead c.args.body.now (sym c.starts_with.ensures.value ∙ c.if-starts_with.true), refl)))

pub returns : goal.returns
returns c =
    let n : length c.args.body.now % 4 ≡ 0 = search (rules, tests) in
    let large = some_large c.args.body.now c.args.q c.as_chunks.result.0.now c.any.result c.as_chunks.ensures.front
    (cases_from_any _ _ _ (λ w. c.args.q ≤ word w) (λ w. word w < c.args.q) c.any.ensures.ran (YieldsList-from_slice c.as_chunks.result.0.now cc) (λ x q k. search (rules, tests)) (λ x q k. search (rules, tests))) in
    inl (n, inl (large.1 c.if-any.false, inl (lead_zeros c.args.body.now n (sym c.starts_with.ensures.value ∙ c.if-starts_with.false), refl)))
