use Rattle.std.proofs.Common.{ap, ◌∙◌, rules, tests}
use Rattle.rules.specs.Packets.{four}
use Rattle.packet.proofs.Asked.{size_refused}
use Rattle.packet.proofs.Entries.{all_bytes}
use Rattle.packet.proofs.contents.read_setting.Goals as goal

pub returns-then-ne-clause-answers : goal.returns-then-ne-clause-answers
returns-then-ne-clause-answers g c =
    let k = c.in_ok-size.ensures in
    size_refused (g.F.Field.meaning c.args.f.now).size c.args.packet.now c.bytes.result.now c.as_slice.result.now c.in_ok-size.size c.in_ok-size.d
    (all_bytes c.args.packet.now (λ i. (c.type_inv.packet i).fits)) k.answers.is k.parts c.bytes.ensures
    (c.as_slice.ensures ∙ c.to_be_bytes.ensures ∙ ap four c.size.ensures) (search (rules, tests))
