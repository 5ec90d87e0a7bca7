use Rattle.own_field.proofs.Nineteens.{lawful}
use Rattle.own_field.proofs.nineteen.Nineteen.new.Goals as goal

pub returns : goal.returns
returns c = lawful
