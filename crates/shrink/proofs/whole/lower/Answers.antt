use Rattle.std.proofs.Common.{arith}
use Rattle.shrink.proofs.Lowers.{some, below-sounds, stays-root, root-givable, root-gone}
use Rattle.shrink.proofs.whole.lower.Goals as goal

pub returns-then-len-ge2 : goal.returns-then-len-ge2
returns-then-len-ge2 g c = stays-root c.requires c.read-n.ensures (omega (arith, c.len.ensures, c.if-len-ge2.true))

pub at-root-requires : goal.at-root-requires
at-root-requires g c = some c.requires c.read-n.ensures

pub seat_kept-requires : goal.seat_kept-requires
seat_kept-requires g c = record { some = some c.requires c.read-n.ensures; sounds = below-sounds c.requires c.read-n.ensures }

pub give-requires : goal.give-requires
give-requires g c =
    root-givable c.requires c.read-n.ensures (omega (arith, c.len.ensures, c.if-len-ge2.false)) c.seat_kept.auto.nodes c.seat_kept.ensures

pub returns : goal.returns
returns g c = root-gone c.requires c.read-n.ensures (omega (arith, c.len.ensures, c.if-len-ge2.false)) c.seat_kept.auto.nodes c.seat_kept.ensures c.at-root.ensures c.give.ensures.spares c.give.ensures.frame
