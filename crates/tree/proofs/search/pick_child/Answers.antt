use Rattle.std.proofs.Common.{◌≡◌, ◌-◌, length, take, drop, ap, ◌∙◌, arith}
use Rattle.tree.specs.Places.{pick_at}
use Rattle.tree.proofs.Picks.{pick-later, pick-found, pick_more, pick_all}
use Rattle.tree.proofs.search.pick_child.Goals as goal

pub loop-i-preserved : goal.loop-i-preserved
loop-i-preserved g c =
    let s = c.as_slice.result.now in
    pick_more g.K.Kind.meaning c.args.nodes.now c.args.key (take (length s - 1) (drop 1 s)) c.loop-i.i c.loop-i-test.true c.loop-i.invariant c.is_before.result c.is_before.ensures c.if-is_before.false

pub returns-then-is_before-clause-is : goal.returns-then-is_before-clause-is
returns-then-is_before-clause-is g c =
    let m = g.K.Kind.meaning in
    let ns = c.args.nodes.now in
    let s = c.as_slice.result.now in
    pick-found m ns c.args.key (take (length s - 1) (drop 1 s)) c.loop-i.i c.loop-i-test.true c.loop-i.invariant c.is_before.result c.is_before.ensures c.if-is_before.true
    ∙ pick-later m ns c.args.key s c.in-len1-up.len_at_least ∙ ap (pick_at m ns c.args.key) c.as_slice.ensures

pub returns-clause-is : goal.returns-clause-is
returns-clause-is g c =
    let m = g.K.Kind.meaning in
    let ns = c.args.nodes.now in
    let s = c.as_slice.result.now in
    let all : length (take (length s - 1) (drop 1 s)) ≡ c.loop-i.i = omega (arith, c.loop-i-test.false, c.loop-i.auto.i-end) in
    all ∙ pick_all m ns c.args.key (take (length s - 1) (drop 1 s)) c.loop-i.i (omega (arith, all)) c.loop-i.invariant
    ∙ pick-later m ns c.args.key s c.in-len1-up.len_at_least ∙ ap (pick_at m ns c.args.key) c.as_slice.ensures
