use Rattle.std.proofs.Common.{sym, ap, ◌∙◌}
use Rattle.rules.specs.Packets.{packet_asks, body_asks}
use Rattle.rules.specs.Settings.{body_of}
use Rattle.rules.proofs.Answering.{answers_unique}
use Rattle.rules.proofs.Canonical.{holds_canonical}
use Rattle.rules.proofs.Single.{body_single}
use Rattle.rules.proofs.Spelled.{body_holds, body_read}
use Rattle.rules.proofs.Written.{packet_holds}
use Rattle.packet.proofs.theorems.packets_stand.Goals as goal

pub returns : goal.returns
returns c = record {
  packet_back = packet_holds;
  body_back = λ m L p. record { asked = body_holds L p; is = body_read L p };
  packet_single = holds_canonical;
  body_single = λ m L a b p h g s t.
      sym (body_single L a h s.asked) ∙ ap (body_of L) (s.is ∙ sym t.is) ∙ body_single L b g t.asked;
  packet_answer = λ k l x. answers_unique (packet_asks k l x);
  body_answer = λ q x. answers_unique (body_asks q x);
}
