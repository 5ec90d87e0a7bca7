use Rattle.place.proofs.place.GiantStep.new.Goals as goal

pub returns : goal.returns
returns g c = record { whole = c.product.result.0; multiplied = c.product.ensures; reduced = c.reduce-saved.ensures }
