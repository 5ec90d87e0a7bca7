use Rattle.std.proofs.Common.{ℕ, List, subst}
use Rattle.field.specs.Meaning.{Meaning}
use Rattle.rules.specs.Questions.{accepted, Answers}
use Rattle.rules.specs.Packets.{body_asks}
use Rattle.rules.proofs.Answering.{answers_hold}
use Rattle.packet.proofs.Entries.{all_bytes}
use Rattle.packet.proofs.Records.{reading}
use Rattle.packet.proofs.codes.read_poly.Goals as goal

pub returns-clause-reading : goal.returns-clause-reading
returns-clause-reading g c =
    let m : Meaning = g.F.Field.meaning c.args.f.now in
    let b : List ℕ = c.args.body.now in
    let a : Answers (body_asks m.size b) accepted = subst (λ (q : ℕ). Answers (body_asks q b) accepted) c.size.ensures c.in_ok-ask.ensures in
    reading m b (all_bytes b (λ i. (c.type_inv.body i).fits)) (answers_hold (body_asks m.size b) a) c.stored.result c.stored.ensures
