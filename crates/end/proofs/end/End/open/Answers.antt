use Rattle.std.proofs.Common.{◌≡◌, length, replicate, refl, subst, rules, arith}
use Rattle.std.proofs.lemmas.Grind.{common_steps}
use Rattle.place.specs.Results.{Found}
use Rattle.end.specs.declared.modes.Mode.TheVariants.{Open}
use Rattle.end.specs.declared.end.End.{End}
use Rattle.end.proofs.Opening.{trivial_secret, open_made}
use Rattle.end.proofs.end.End.open.Goals as goal

pub returns-then-is_one-clause-follows : goal.returns-then-is_one-clause-follows
returns-then-is_one-clause-follows g c =
    let ready = c.in_ok-curve in
    let found = subst (λ (f : g.row.F.Denot). Found (g.F.Field.meaning f) ready.curve.setting c.args.secret.now c.find-place.result) ready.ensures.2 c.find-place.ensures in
    let zero : c.drop-guard-then-is_one.new.self.0 ≡ replicate (length c.args.secret.now) 0 = search rules in
    rw zero (trivial_secret c.args.self.now c.args.secret.now ready.curve.setting c.find-place.result c.is_one.result ready.ensures.0 ready.ensures.1
    (c.is_number.ensures.0 c.if-not-is_number.false) found (rw c.ideal.ensures at c.is_one.ensures.is) c.if-is_one.true)

pub returns-clause-follows : goal.returns-clause-follows
returns-clause-follows g c =
    let ready = c.in_ok-curve in
    let found = subst (λ (f : g.row.F.Denot). Found (g.F.Field.meaning f) ready.curve.setting c.args.secret.now c.find-place.result) ready.ensures.2 c.find-place.ensures in
    let after : End g.row.F.Denot = record {
      field = c.args.self.now.field;
      mode = Open ready.curve.setting;
      ideal = c.ideal-2.result.now;
      distance = c.keep.new.distance;
      key = c.args.self.now.key;
    } in
    let zero : c.drop-guard-2.new.self.0 ≡ replicate (length c.args.secret.now) 0 = search rules in
    rw zero (open_made c.args.self.now c.args.secret.now ready.curve.setting c.find-place.result c.is_one.result ready.ensures.0 ready.ensures.1
    (c.is_number.ensures.0 c.if-not-is_number.false) found (rw c.ideal.ensures at c.is_one.ensures.is) c.if-is_one.false
    after refl c.ideal-2.ensures (grind (arith, common_steps)))
