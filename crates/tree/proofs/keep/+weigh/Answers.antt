use Rattle.std.proofs.Common.{◌-◌, length, sym, subst, arith}
use Rattle.table.specs.Reading.{tree_at, Sound, Became}
use Rattle.table.proofs.Steps.{sound-within, kids-some, kids-within, kid-sound}
use Rattle.tree.proofs.Heights.{sound-up, became-up}
use Rattle.trees.specs.Kept.{weigh}
use Rattle.tree.proofs.Pushes.{weigh-leaf, weigh-on}
use Rattle.tree.proofs.keep.+weigh.Goals as goal

pub read-n-requires : goal.read-n-requires
read-n-requires g t c = sound-within g.K.Kind.meaning c.args.nodes.now c.args.tree.height c.args.tree.root c.requires

pub write-requires : goal.write-requires
write-requires g t c = sound-within g.K.Kind.meaning c.args.nodes.now c.args.tree.height c.args.tree.root c.requires

pub returns-then-tree-eq0 : goal.returns-then-tree-eq0
returns-then-tree-eq0 g t c =
    rw (c.write.ensures, c.weighing.ensures)
    (weigh-leaf g.K.Kind.meaning c.args.nodes.now c.args.tree.height c.args.tree.root c.read-n.result c.if-tree-eq0.true c.read-n.ensures (sound-within g.K.Kind.meaning c.args.nodes.now c.args.tree.height c.args.tree.root c.requires) c.args.key c.args.weight)

pub pick_child-i-requires : goal.pick_child-i-requires
pick_child-i-requires g t c = record {
  within = kids-within g.K.Kind.meaning c.args.nodes.now (c.args.tree.height - 1) c.args.tree.root c.read-n.result c.read-n.ensures (sound-up g.K.Kind.meaning c.args.nodes.now c.args.tree.height c.args.tree.root c.if-tree-eq0.false c.requires);
  some = kids-some g.K.Kind.meaning c.args.nodes.now (c.args.tree.height - 1) c.args.tree.root c.read-n.result c.read-n.ensures (sound-up g.K.Kind.meaning c.args.nodes.now c.args.tree.height c.args.tree.root c.if-tree-eq0.false c.requires);
}

pub weigh-requires : goal.weigh-requires
weigh-requires g t c κs within =
    (omega arith, (within.0, (within.1.0, (within.1.1.0, (within.1.1.1, subst (λ q. Sound (length c.args.nodes.now) (c.args.tree.height - 1) (tree_at g.K.Kind.meaning c.args.nodes.now (c.args.tree.height - 1) q)) (sym c.at.ensures) (kid-sound g.K.Kind.meaning c.args.nodes.now (c.args.tree.height - 1) c.args.tree.root c.read-n.result c.read-n.ensures (sound-up g.K.Kind.meaning c.args.nodes.now c.args.tree.height c.args.tree.root c.if-tree-eq0.false c.requires) c.pick_child-i.result c.pick_child-i.ensures.below))))))

pub returns : goal.returns
returns g t c =
    let below = subst (λ q. Became g.K.Kind.meaning c.args.nodes.now c.weigh.new.nodes (c.args.tree.height - 1) q (weigh g.K.Kind.meaning (c.args.tree.height - 1) c.args.key (g.K.Kind.meaning.recalled c.args.weight) (tree_at g.K.Kind.meaning c.args.nodes.now (c.args.tree.height - 1) q))) c.at.ensures c.weigh.ensures in
    became-up g.K.Kind.meaning c.args.nodes.now c.args.tree.height c.args.tree.root c.if-tree-eq0.false c.weigh.new.nodes (λ k. weigh g.K.Kind.meaning k c.args.key (g.K.Kind.meaning.recalled c.args.weight))
    (weigh-on g.K.Kind.meaning c.args.nodes.now (c.args.tree.height - 1) c.args.tree.root c.read-n.result c.read-n.ensures (sound-up g.K.Kind.meaning c.args.nodes.now c.args.tree.height c.args.tree.root c.if-tree-eq0.false c.requires) c.weigh.new.nodes c.weigh.auto.nodes c.pick_child-i.result c.pick_child-i.ensures.below c.args.key (g.K.Kind.meaning.recalled c.args.weight) c.pick_child-i.ensures.is below)
