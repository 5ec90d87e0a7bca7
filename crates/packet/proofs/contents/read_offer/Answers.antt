use Rattle.field.specs.Refusals.{refusal_number}
use Rattle.std.proofs.lemmas.Result.{err_from_is_err_and}
use Rattle.rules.specs.Questions.{refused}
use Rattle.packet.proofs.Asked.{offer_answered}
use Rattle.packet.proofs.contents.read_offer.Goals as goal

pub returns-in_err-p : goal.returns-in_err-p
returns-in_err-p g c =
    let p = err_from_is_err_and c.from_residual-in_err-p.result c.from_residual-in_err-p.ensures.1 in
    let h = c.in_ok-q.ensures in
    rw (p.1, p.2) (record {
      answers = offer_answered (g.F.Field.meaning c.args.f.now).size c.args.packet.now c.bytes.result.now c.bytes-2.result.now
          c.in_ok-q.q c.in_ok-q.p (refused (refusal_number c.in_err-p.field-0.0)) h.answers.is h.parts
          c.bytes.ensures c.in_ok-q-2.ensures.answers.is c.bytes-2.ensures c.in_err-p.ensures.answers.is;
      reading = tt;
    })
