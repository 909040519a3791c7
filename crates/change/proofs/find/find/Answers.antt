use Rattle.change.proofs.Founds.{find-some}
use Rattle.change.proofs.Stands.{standing-sound}
use Rattle.change.proofs.find.find.Goals as goal

pub find_below-requires : goal.find_below-requires
find_below-requires g c = standing-sound g.K.Kind.meaning c.args.nodes.now c.args.header c.requires c.if-header-eq0.false

pub returns-clause-weight : goal.returns-clause-weight
returns-clause-weight g c = find-some g.K.Kind.meaning g.met.K.Kind.first g.met.K.Kind.second c.args.nodes.now c.args.header c.args.key c.find_below.result c.if-header-eq0.false c.find_below.ensures
