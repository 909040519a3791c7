use Rattle.std.proofs.Common.{sym, ◌∙◌}
use Rattle.table.specs.Reading.{point_in}
use Rattle.checker.proofs.Nodes.{has-below, has-after}
use Rattle.checker.proofs.points.+has_point.Goals as goal

pub returns-then-has_point : goal.returns-then-has_point
returns-then-has_point g t c e =
    has-below g.K.Kind.meaning c.args.nodes.now c.args.height c.args.places.now c.in-len1-up.len_at_least c.in-Some.n (sym c.node_at.ensures ∙ c.in-Some.is) (point_in g.K.Kind.meaning c.args.x) c.if-height-eq0.false (rw (← c.as_slice.ensures) (c.has_point.ensures c.if-has_point.true))

pub returns : goal.returns
returns g t c e =
    has-after g.K.Kind.meaning c.args.nodes.now c.args.height c.args.places.now c.in-len1-up.len_at_least c.in-Some.n (sym c.node_at.ensures ∙ c.in-Some.is) (point_in g.K.Kind.meaning c.args.x) (c.has_point-2.ensures e)
