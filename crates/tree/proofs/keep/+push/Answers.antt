use Rattle.std.proofs.Common.{◌-◌, length, sym, ap, ◌∙◌, subst, arith}
use Rattle.table.specs.Kids.{kids_of}
use Rattle.table.specs.Reading.{tree_at, Sound, Became}
use Rattle.table.proofs.Steps.{sound-within, kids-some, kids-within, kid-sound}
use Rattle.tree.proofs.Heights.{sound-up, became-up}
use Rattle.trees.specs.Kept.{push}
use Rattle.table.specs.Reading.{point_in}
use Rattle.tree.specs.Places.{pick_at}
use Rattle.tree.proofs.Pushes.{push-leaf, push-empty, push-on}
use Rattle.tree.proofs.keep.+push.Goals as goal

pub read-n-requires : goal.read-n-requires
read-n-requires g t c = sound-within g.K.Kind.meaning c.args.nodes.now c.args.tree.height c.args.tree.root c.requires

pub write-requires : goal.write-requires
write-requires g t c = sound-within g.K.Kind.meaning c.args.nodes.now c.args.tree.height c.args.tree.root c.requires

pub write-requires-in_default : goal.write-requires-in_default
write-requires-in_default g t c = sound-within g.K.Kind.meaning c.args.nodes.now c.args.tree.height c.args.tree.root c.requires

pub returns-then-tree-eq0 : goal.returns-then-tree-eq0
returns-then-tree-eq0 g t c =
    rw (c.write.ensures, c.keeping.ensures)
    (push-leaf g.K.Kind.meaning c.args.nodes.now c.args.tree.height c.args.tree.root c.read-n.result c.if-tree-eq0.true c.read-n.ensures (sound-within g.K.Kind.meaning c.args.nodes.now c.args.tree.height c.args.tree.root c.requires) c.args.x)

pub returns-in_default : goal.returns-in_default
returns-in_default g t c =
    rw (c.write-in_default.ensures, c.keeping-in_default.ensures)
    (became-up g.K.Kind.meaning c.args.nodes.now c.args.tree.height c.args.tree.root c.if-tree-eq0.false _ (λ k. push g.K.Kind.meaning k (point_in g.K.Kind.meaning c.args.x))
    (push-empty g.K.Kind.meaning c.args.nodes.now (c.args.tree.height - 1) c.args.tree.root c.read-n.result c.read-n.ensures (sound-up g.K.Kind.meaning c.args.nodes.now c.args.tree.height c.args.tree.root c.if-tree-eq0.false c.requires) c.args.x c.in_default.is))

pub pick_child-i-requires : goal.pick_child-i-requires
pick_child-i-requires g t c = record {
  within = kids-within g.K.Kind.meaning c.args.nodes.now (c.args.tree.height - 1) c.args.tree.root c.read-n.result c.read-n.ensures (sound-up g.K.Kind.meaning c.args.nodes.now c.args.tree.height c.args.tree.root c.if-tree-eq0.false c.requires);
  some = kids-some g.K.Kind.meaning c.args.nodes.now (c.args.tree.height - 1) c.args.tree.root c.read-n.result c.read-n.ensures (sound-up g.K.Kind.meaning c.args.nodes.now c.args.tree.height c.args.tree.root c.if-tree-eq0.false c.requires);
}

pub push-requires : goal.push-requires
push-requires g t c κs within =
    (omega arith, (within.0, (within.1.0, (within.1.1.0, (within.1.1.1, subst (λ q. Sound (length c.args.nodes.now) (c.args.tree.height - 1) (tree_at g.K.Kind.meaning c.args.nodes.now (c.args.tree.height - 1) q)) (sym c.at.ensures) (kid-sound g.K.Kind.meaning c.args.nodes.now (c.args.tree.height - 1) c.args.tree.root c.read-n.result c.read-n.ensures (sound-up g.K.Kind.meaning c.args.nodes.now c.args.tree.height c.args.tree.root c.if-tree-eq0.false c.requires) c.pick_child-i.result c.pick_child-i.ensures.below))))))

pub write-requires-2 : goal.write-requires-2
write-requires-2 g t c = omega (arith, sound-within g.K.Kind.meaning c.args.nodes.now c.args.tree.height c.args.tree.root c.requires, c.push.auto.nodes)

pub returns : goal.returns
returns g t c =
    let last = c.in_rank-two.result.last in
    let below = subst (λ q. Became g.K.Kind.meaning c.args.nodes.now c.push.new.nodes (c.args.tree.height - 1) q (push g.K.Kind.meaning (c.args.tree.height - 1) (point_in g.K.Kind.meaning last) (tree_at g.K.Kind.meaning c.args.nodes.now (c.args.tree.height - 1) q))) c.at.ensures c.push.ensures in
    rw (c.write-2.ensures, c.keeping-2.ensures)
    (became-up g.K.Kind.meaning c.args.nodes.now c.args.tree.height c.args.tree.root c.if-tree-eq0.false _ (λ k. push g.K.Kind.meaning k (point_in g.K.Kind.meaning c.args.x))
    (push-on g.K.Kind.meaning c.args.nodes.now (c.args.tree.height - 1) c.args.tree.root c.read-n.result c.read-n.ensures (sound-up g.K.Kind.meaning c.args.nodes.now c.args.tree.height c.args.tree.root c.if-tree-eq0.false c.requires) c.push.new.nodes c.push.auto.nodes c.pick_child-i.result c.pick_child-i.ensures.below
    c.args.x _ c.in_rank-two.result.first last c.in-Some.is c.in_rank-two.ensures.first c.in_rank-two.ensures.last
    (c.pick_child-i.ensures.is ∙ ap (λ k. pick_at g.K.Kind.meaning c.args.nodes.now k (kids_of c.read-n.result.children)) c.key.ensures) below))
