use Rattle.std.proofs.Common.{sym, refl, ◌∙◌}
use Rattle.checker.specs.Passes.{kept_over}
use Rattle.checker.proofs.Nodes.{pass-leaf, pass-fork}
use Rattle.checker.proofs.rules.+pass_all.Goals as goal

pub returns-then-height-eq0 : goal.returns-then-height-eq0
returns-then-height-eq0 g t c e =
    pass-leaf g.K.Kind.meaning c.args.nodes.now c.args.height c.args.places.now c.in-len1-up.len_at_least c.in-Some.n (sym c.node_at.ensures ∙ c.in-Some.is)
    (kept_over g.K.Kind.meaning c.args.above) c.args.end c.next_key-next.result c.next_key-next.ensures (c.if-not-follows.ensures refl) (c.if-not-pass_all.ensures refl) c.if-height-eq0.true (c.leaf_passes.ensures e)

pub returns : goal.returns
returns g t c e =
    pass-fork g.K.Kind.meaning c.args.nodes.now c.args.height c.args.places.now c.in-len1-up.len_at_least c.in-Some.n (sym c.node_at.ensures ∙ c.in-Some.is)
    (kept_over g.K.Kind.meaning c.args.above) c.args.end c.next_key-next.result c.next_key-next.ensures (c.if-not-follows.ensures refl) (c.if-not-pass_all.ensures refl) c.if-height-eq0.false (c.if-not-fork_passes.ensures refl) (rw (← c.as_slice.ensures) (c.pass_all-2.ensures e))
