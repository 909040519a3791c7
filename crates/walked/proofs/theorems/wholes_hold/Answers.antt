use Rattle.walked.proofs.Wholes.{wholes-hold}
use Rattle.walked.proofs.theorems.wholes_hold.Goals as goal

pub returns : goal.returns
returns g c = wholes-hold g.K.Kind.meaning g.met.K.Kind.first g.met.K.Kind.second g.row.K-Coordinate.coded g.row.K-Weight.coded
