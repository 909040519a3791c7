use Rattle.table.specs.Keys.{key_in}
use Rattle.grow.proofs.Splits.{p-within, q-within, q-off, rights-sound, both-sound, split_done}
use Rattle.grow.proofs.split.split.Goals as goal

pub settle-requires-clause-within : goal.settle-requires-clause-within
settle-requires-clause-within g c = p-within c.requires

pub settle-requires-2-clause-within : goal.settle-requires-2-clause-within
settle-requires-2-clause-within g c = rw (c.settle.auto.nodes) (q-within c.requires)

pub settle-requires-2-clause-sounds : goal.settle-requires-2-clause-sounds
settle-requires-2-clause-sounds g c = rights-sound c.requires c.settle.auto.nodes c.settle.ensures

pub settle-requires-2-clause-apart : goal.settle-requires-2-clause-apart
settle-requires-2-clause-apart g c = q-off c.requires c.settle.auto.nodes c.settle.ensures

pub seat_half-requires : goal.seat_half-requires
seat_half-requires g c = both-sound c.requires c.settle.auto.nodes c.settle.ensures c.settle-2.auto.nodes c.settle-2.ensures (key_in c.args.node.own)

pub returns : goal.returns
returns g c = split_done c.requires c.settle.auto.nodes c.settle.ensures c.settle-2.auto.nodes c.settle-2.ensures (key_in c.args.node.own) c.seat_half.ensures
