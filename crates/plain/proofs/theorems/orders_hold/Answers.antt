use Rattle.plain.proofs.Laws.{orders}
use Rattle.plain.proofs.theorems.orders_hold.Goals as goal

pub returns : goal.returns
returns g c = orders g.K.Kind.meaning g.met.K.Kind.first g.met.K.Kind.second
