use Rattle.tree.proofs.Standings.{few-nodes}
use Rattle.tree.proofs.theorems.few_nodes.Goals as goal

pub returns : goal.returns
returns g c = few-nodes g.K.Kind.meaning
