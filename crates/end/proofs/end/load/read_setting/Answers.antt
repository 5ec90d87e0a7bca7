use Rattle.std.proofs.Common.{Option, subst}
use Rattle.field.specs.Meaning.{Meaning}
use Rattle.poly.specs.declared.poly.Poly.{Poly}
use Rattle.rules.specs.Packets.{body, second}
use Rattle.packet.specs.Polynomials.{Reading}
use Rattle.end.proofs.Options.{there}
use Rattle.end.proofs.Loading.{setting_read}
use Rattle.end.proofs.end.load.read_setting.Goals as goal

pub returns : goal.returns
returns g c =
    let M : Meaning = g.F.Field.meaning c.args.f.now in
    let read = c.in_ok-read_setting.ensures in
    setting_read c.args.bytes.now c.in_ok-radicand.radicand c.new.result read.answers.is
    (subst (λ (o : Option Poly). Reading M (body c.args.bytes.now second) o) (there _ _ _ c.in_ok-radicand.ensures.value) read.reading) c.new.ensures.made
