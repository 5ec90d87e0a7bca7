use Rattle.std.proofs.Common.{ℕ, ◌<◌, subst, rules}
use Rattle.field.specs.Meaning.{Meaning}
use Rattle.rules.specs.Packets.{four, packet, spell}
use Rattle.packet.specs.Polynomials.{codes_down}
use Rattle.packet.specs.Writing.{Written}
use Rattle.packet.proofs.Packed.{writes_setting, settings_back}
use Rattle.packet.proofs.writer.write_setting.Goals as goal

pub returns : goal.returns
returns g c =
    let m : Meaning = g.F.Field.meaning c.args.f.now in
    let w : Written (packet 1 2 (four m.size) (spell (codes_down c.args.d.now))) c.args.out.now c.write.new.out c.write.result = search rules in
    record {
      bytes = w;
      values = writes_setting m c.args.d.now c.args.out.now c.write.new.out c.write.result w;
      back = settings_back m c.args.d.now c.args.out.now c.write.new.out c.write.result (subst (λ (n : ℕ). n < 4294967296) c.size.ensures c.size.type_inv) w;
    }
