use Rattle.std.proofs.Common.{arith}
use Rattle.change.proofs.Stands.{standing-sound}
use Rattle.change.proofs.Weighs.{changed-standing, changed-ruled}
use Rattle.change.proofs.change.change.Goals as goal

pub reweigh_below-requires : goal.reweigh_below-requires
reweigh_below-requires g c = standing-sound g.K.Kind.meaning c.args.nodes.now c.args.header c.requires.standing (λ z. omega (arith, c.requires.some))

pub returns-clause-standing : goal.returns-clause-standing
returns-clause-standing g c =
    let m = g.K.Kind.meaning in
    changed-standing m c.args.nodes.now c.reweigh_below.new.nodes c.args.header c.args.key (m.recalled c.args.weight) c.reweigh_below.auto.nodes c.requires.standing (λ z. omega (arith, c.requires.some)) c.reweigh_below.ensures

pub returns-clause-ruled : goal.returns-clause-ruled
returns-clause-ruled g c =
    let m = g.K.Kind.meaning in
    changed-ruled m c.args.nodes.now c.reweigh_below.new.nodes c.args.header c.args.key (m.recalled c.args.weight) c.reweigh_below.auto.nodes c.requires.standing (λ z. omega (arith, c.requires.some)) c.reweigh_below.ensures g.met.K.Kind.first g.met.K.Kind.second
