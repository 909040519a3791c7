use Rattle.walked.proofs.Wholes.{walks-hold}
use Rattle.walked.proofs.theorems.walks_hold.Goals as goal

pub returns : goal.returns
returns g c = walks-hold g.K.Kind.meaning g.met.K.Kind.first g.met.K.Kind.second
