use Rattle.table.specs.Reading.{point_in}
use Rattle.tree.specs.Standing.{forest_of}
use Rattle.grow.specs.Planted.{Planted}
use Rattle.tree.proofs.Standings.{one-tree}
use Rattle.grow.proofs.Stands.{spares-in, some-spare, empty, enough, ready, low, stands_on, rules-on, any-height}
use Rattle.grow.proofs.whole.insert.Goals.{then-old-eq0, else-old-eq0}
use Rattle.grow.proofs.whole.insert.Goals as goal

pub plant-top-requires-clause-within : goal.plant-top-requires-clause-within
plant-top-requires-clause-within g c = spares-in c.requires.standing c.requires.room

pub extend-top-requires-clause-ready : goal.extend-top-requires-clause-ready
extend-top-requires-clause-ready g c = ready c.requires.standing c.requires.room c.if-old-eq0.false

pub extend-top-requires-clause-room : goal.extend-top-requires-clause-room
extend-top-requires-clause-room g c = enough c.requires.standing c.requires.room c.if-old-eq0.false

pub extend-top-requires-clause-low : goal.extend-top-requires-clause-low
extend-top-requires-clause-low g c = low c.requires.standing c.requires.room c.if-old-eq0.false

pub returns : goal.returns
returns g c =
    let top = c.if-old-eq0.top in
    let grown : Planted g.K.Kind.meaning c.args.nodes.now c.if-old-eq0.nodes c.args.header.now.free c.if-old-eq0.free c.args.header.now.top.height (forest_of g.K.Kind.meaning c.args.nodes.now c.args.header.now) (point_in g.K.Kind.meaning c.args.x) top.height top.root =
    elim c.if-old-eq0.branch [
      | then-old-eq0 w ↦ rw (w.nodes-is, w.free-is, w.top-is, empty c.requires.standing c.requires.room w.if-old-eq0.true) (any-height c.args.header.now.top.height (some-spare c.requires.standing c.requires.room w.if-old-eq0.true) w.plant-top.ensures)
      | else-old-eq0 w ↦ rw (w.nodes-is, w.free-is, w.top-is, one-tree g.K.Kind.meaning c.args.nodes.now c.args.header.now w.if-old-eq0.false) w.extend-top.ensures
    ] in
    record { standing = stands_on c.requires.standing c.requires.room top c.if-old-eq0.auto.nodes grown; ruled = rules-on c.requires.standing c.requires.room top c.if-old-eq0.auto.nodes grown g.met.K.Kind.first g.met.K.Kind.second }
