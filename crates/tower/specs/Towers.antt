-- What a field chosen at run time means.
use Rattle.field.specs.Meaning.{Meaning}
use Rattle.tower.specs.Piles.{pile_meaning}
use Rattle.tower.specs.declared.tower.Tower.{Tower}

abbrev pub tower_meaning : Tower → Meaning
tower_meaning t = pile_meaning t.pile
