use Rattle.plain.proofs.Laws.{sums-grow}
use Rattle.plain.proofs.theorems.sums_grow.Goals as goal

pub returns : goal.returns
returns g c = sums-grow g.K.Kind.meaning g.met.K.Kind.first g.K.SummedKind.number c.numbers_hold.ensures
