use Rattle.table.specs.Reading.{point_in}
use Rattle.grow.proofs.Plants.{us-sound, left_over, spares-in, grown-one, next-sound, next-within, next-off, top_sound, grown-two}
use Rattle.grow.proofs.whole.extend.Goals as goal

pub seat-requires-clause-sounds : goal.seat-requires-clause-sounds
seat-requires-clause-sounds g c = rw (c.of.ensures) (us-sound c.requires.ready (point_in g.K.Kind.meaning c.args.x) (rw (c.in_default.is) at c.insert_at.ensures) c.insert_at.auto.nodes)

pub returns-in_default : goal.returns-in_default
returns-in_default g c = grown-one c.requires.ready (point_in g.K.Kind.meaning c.args.x) (rw (c.in_default.is) at c.insert_at.ensures) c.seat.auto.nodes (rw (c.of.ensures) at c.seat.ensures)

pub take-requires-clause-some : goal.take-requires-clause-some
take-requires-clause-some g c = left_over c.requires.ready (point_in g.K.Kind.meaning c.args.x) (rw (c.in-Some.is) at c.insert_at.ensures) c.insert_at.auto.nodes c.requires.room

pub take-requires-clause-within : goal.take-requires-clause-within
take-requires-clause-within g c = spares-in c.requires.ready (point_in g.K.Kind.meaning c.args.x) (rw (c.in-Some.is) at c.insert_at.ensures) c.insert_at.auto.nodes

pub settle-requires-clause-within : goal.settle-requires-clause-within
settle-requires-clause-within g c = next-within c.requires.ready (point_in g.K.Kind.meaning c.args.x) (rw (c.in-Some.is) at c.insert_at.ensures) c.insert_at.auto.nodes _ c.take.ensures

pub settle-requires-clause-sounds : goal.settle-requires-clause-sounds
settle-requires-clause-sounds g c = rw (c.of-2.ensures) (next-sound c.requires.ready (point_in g.K.Kind.meaning c.args.x) (rw (c.in-Some.is) at c.insert_at.ensures) c.insert_at.auto.nodes _ c.take.ensures)

pub settle-requires-clause-apart : goal.settle-requires-clause-apart
settle-requires-clause-apart g c = rw (c.of-2.ensures) (next-off c.requires.ready (point_in g.K.Kind.meaning c.args.x) (rw (c.in-Some.is) at c.insert_at.ensures) c.insert_at.auto.nodes _ c.take.ensures)

pub seat-requires-2-clause-sounds : goal.seat-requires-2-clause-sounds
seat-requires-2-clause-sounds g c = rw (c.of-3.ensures) (top_sound c.requires.ready (point_in g.K.Kind.meaning c.args.x) (rw (c.in-Some.is) at c.insert_at.ensures) c.insert_at.auto.nodes _ c.take.ensures c.settle.auto.nodes (rw (c.of-2.ensures) at c.settle.ensures))

pub returns : goal.returns
returns g c =
    grown-two c.requires.ready (point_in g.K.Kind.meaning c.args.x) (rw (c.in-Some.is) at c.insert_at.ensures) c.insert_at.auto.nodes _ c.take.ensures c.settle.auto.nodes (rw (c.of-2.ensures) at c.settle.ensures) c.seat-2.auto.nodes (rw (c.of-3.ensures) at c.seat-2.ensures)
