use Rattle.shrink.proofs.Wholes.{root-sound, root-givable, Left, leaf-left, ready, lowerable, fork-left, stands-again, ruled-again}
use Rattle.shrink.proofs.whole.remove.Goals as goal
use Rattle.shrink.proofs.whole.remove.Goals.{then-old-eq0, else-old-eq0}

pub take_out-requires : goal.take_out-requires
take_out-requires g c = root-sound c.requires.standing c.requires.some c.args.key

pub give-requires : goal.give-requires
give-requires g c = root-givable c.requires.standing c.requires.some c.args.key c.take_out.auto.nodes c.take_out.ensures

pub remove_at-requires : goal.remove_at-requires
remove_at-requires g c = ready c.requires.standing c.requires.some c.args.key c.take_out.auto.nodes c.take_out.ensures c.if-old-eq0.false

pub lower-top-requires : goal.lower-top-requires
lower-top-requires g c = lowerable c.requires.standing c.requires.some c.args.key c.take_out.auto.nodes c.take_out.ensures c.if-old-eq0.false c.remove_at.auto.nodes c.remove_at.ensures

pub returns : goal.returns
returns g c =
    let st = c.requires.standing in
    let left : Left st c.requires.some c.args.key c.if-old-eq0.nodes c.if-old-eq0.top c.if-old-eq0.free =
    elim c.if-old-eq0.branch [
      | then-old-eq0 w ↦ rw (w.nodes-is, w.top-is, w.free-is)
          (leaf-left st c.requires.some c.args.key c.take_out.auto.nodes c.take_out.ensures w.if-old-eq0.true w.give.auto.nodes w.give.ensures.spares)
      | else-old-eq0 w ↦ rw (w.nodes-is, w.top-is, w.free-is)
          (fork-left st c.requires.some c.args.key c.take_out.auto.nodes c.take_out.ensures w.if-old-eq0.false w.remove_at.auto.nodes w.remove_at.ensures w.lower-top.auto.nodes w.lower-top.ensures)
    ] in
    record { standing = stands-again st c.requires.some c.args.key left; ruled = ruled-again st c.requires.some c.args.key left g.met.K.Kind.first g.met.K.Kind.second }
