use Rattle.std.proofs.Common.{rules}
use Rattle.rules.specs.Packets.{packet, spell}
use Rattle.packet.specs.Polynomials.{codes_down}
use Rattle.packet.specs.Writing.{Written}
use Rattle.packet.proofs.Packed.{writes_offer, offers_back}
use Rattle.packet.proofs.writer.write_offer.Goals as goal

pub returns : goal.returns
returns c =
    let w : Written (packet 3 4 (spell (codes_down c.args.q.now)) (spell (codes_down c.args.p.now))) c.args.out.now c.write.new.out c.write.result = search rules in
    record {
      bytes = w;
      values = writes_offer c.args.q.now c.args.p.now c.args.out.now c.write.new.out c.write.result w;
      back = offers_back c.args.q.now c.args.p.now c.args.out.now c.write.new.out c.write.result w;
    }
