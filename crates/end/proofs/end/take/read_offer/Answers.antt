use Rattle.std.proofs.Common.{ℕ, List, Option, subst}
use Rattle.std.proofs.lemmas.Result.{err_from_is_err_and}
use Rattle.field.specs.Meaning.{Meaning}
use Rattle.poly.specs.declared.poly.Poly.{Poly}
use Rattle.rules.specs.Packets.{body, first}
use Rattle.packet.specs.Polynomials.{Reading}
use Rattle.ideal.specs.Results.{IdealMade}
use Rattle.end.proofs.Options.{there, missing}
use Rattle.end.proofs.Taking.{bodies_away, long_q, either_p}
use Rattle.end.proofs.end.take.read_offer.Goals as goal

pub returns-in_err-q : goal.returns-in_err-q
returns-in_err-q g c =
    let p = err_from_is_err_and c.from_residual.result c.from_residual.ensures.1 in
    rw (p.1, p.2) (bodies_away (g.F.Field.meaning c.args.curve.now.field) c.args.curve.now.setting c.args.bytes.now
    c.in_err-q.field-0.0 c.in_err-q.ensures.answers.is)

pub returns-in_err-q-2 : goal.returns-in_err-q-2
returns-in_err-q-2 g c =
    let M : Meaning = g.F.Field.meaning c.args.curve.now.field in
    let x : List ℕ = c.args.bytes.now in
    let read = c.in_ok-q.ensures in
    let p = err_from_is_err_and c.from_residual-in_err-q-2.result c.from_residual-in_err-q-2.ensures.1 in
    let none = missing _ _ _ c.in_err-q-2.ensures.value in
    rw (p.1, p.2, none.1) (long_q M c.args.curve.now.setting x read.answers.is
    (subst (λ (o : Option Poly). Reading M (body x first) o) none.0 read.reading.0))

pub returns : goal.returns
returns g c =
    let M : Meaning = g.F.Field.meaning c.args.curve.now.field in
    let x : List ℕ = c.args.bytes.now in
    let read = c.in_ok-q.ensures in
    either_p M c.args.curve.now.setting x read.answers.is
    c.in_ok-q-2.q (subst (λ (o : Option Poly). Reading M (body x first) o) (there _ _ _ c.in_ok-q-2.ensures.value) read.reading.0)
    c.in_ok-q.p read.reading.1 c.new.result
    (subst (λ (p : Poly). IdealMade M c.args.curve.now.setting c.in_ok-q-2.q p c.new.result) c.unwrap_or.ensures c.new.ensures.made)
