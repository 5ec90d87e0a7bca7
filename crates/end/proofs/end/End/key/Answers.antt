use Rattle.std.proofs.Common.{ℕ, List, subst₂, rules}
use Rattle.poly.specs.declared.poly.Poly.{Poly}
use Rattle.packet.specs.Writing.{WritesOffer}
use Rattle.end.proofs.Telling.{handed}
use Rattle.end.proofs.end.End.key.Goals as goal

pub returns-clause-follows : goal.returns-clause-follows
returns-clause-follows g c =
    let before : List ℕ = c.args.out.now in
    let after : List ℕ = c.write_offer.new.out in
    handed c.args.self.now before after c.write_offer.result (search rules)
    (subst₂ (λ (q p : Poly). WritesOffer q p before after c.write_offer.result) c.q.ensures c.p.ensures c.write_offer.ensures.values)
