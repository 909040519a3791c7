use Rattle.tree.proofs.Standings.{rules-held}
use Rattle.tree.proofs.theorems.rules_hold.Goals as goal

pub returns : goal.returns
returns g c = rules-held g.K.Kind.meaning g.met.K.Kind.first g.met.K.Kind.second g.row.K-Coordinate.coded g.row.K-Weight.coded
