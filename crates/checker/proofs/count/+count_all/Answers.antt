use Rattle.std.proofs.Common.{sym, ◌∙◌}
use Rattle.checker.proofs.Nodes.{count-fork}
use Rattle.checker.proofs.count.+count_all.Goals as goal

pub returns : goal.returns
returns g t c =
    count-fork g.K.Kind.meaning c.args.nodes.now c.args.height c.args.places.now c.in-len1-up.len_at_least c.in_ok-n.n (sym c.node_at.ensures ∙ c.in_ok-n.was) c.if-height-eq0.false
    c.own_counts-2.result c.in_ok-below.below c.in_ok-after.after c.in_ok-all.all c.own_counts-2.ensures.points c.own_counts-2.ensures.kept (rw (← c.as_slice.ensures) c.in_ok-below.ensures) c.in_ok-after.ensures c.in_ok-all.ensures c.added-3.result c.added-3.ensures
