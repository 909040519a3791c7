use Rattle.std.proofs.Common.{◌-◌, length, sym, ◌∙◌, subst, arith}
use Rattle.table.specs.Reading.{tree_at, Sound, Became}
use Rattle.table.proofs.Steps.{sound-within, kids-some, kids-within, kid-sound}
use Rattle.tree.proofs.Heights.{up, sound-up, became-up}
use Rattle.trees.specs.Kept.{pull, take_out}
use Rattle.tree.proofs.Pushes.{take-leaf, take-here, take_on}
use Rattle.tree.proofs.keep.+take_out.Goals as goal

pub read-n-requires : goal.read-n-requires
read-n-requires g t c = sound-within g.K.Kind.meaning c.args.nodes.now c.args.tree.height c.args.tree.root c.requires

pub write-requires : goal.write-requires
write-requires g t c = sound-within g.K.Kind.meaning c.args.nodes.now c.args.tree.height c.args.tree.root c.requires

pub returns-then-tree-eq0 : goal.returns-then-tree-eq0
returns-then-tree-eq0 g t c =
    rw (c.write.ensures, c.keeping.ensures)
    (take-leaf g.K.Kind.meaning c.args.nodes.now c.args.tree.height c.args.tree.root c.read-n.result c.if-tree-eq0.true c.read-n.ensures (sound-within g.K.Kind.meaning c.args.nodes.now c.args.tree.height c.args.tree.root c.requires) c.args.key)

pub returns-then-keeps_key : goal.returns-then-keeps_key
returns-then-keeps_key g t c =
    became-up g.K.Kind.meaning c.args.nodes.now c.args.tree.height c.args.tree.root c.if-tree-eq0.false c.pull.new.nodes (λ k. take_out g.K.Kind.meaning k c.args.key)
    (take-here g.K.Kind.meaning c.args.nodes.now (c.args.tree.height - 1) c.args.tree.root c.read-n.result c.read-n.ensures (sound-up g.K.Kind.meaning c.args.nodes.now c.args.tree.height c.args.tree.root c.if-tree-eq0.false c.requires) c.args.key c.pull.new.nodes (sym c.keeps_key.ensures ∙ c.if-keeps_key.true)
    (subst (λ k. Became g.K.Kind.meaning c.args.nodes.now c.pull.new.nodes k c.args.tree.root (pull g.K.Kind.meaning k (tree_at g.K.Kind.meaning c.args.nodes.now k c.args.tree.root))) (up c.args.tree.height c.if-tree-eq0.false) c.pull.ensures))

pub pick_child-i-requires : goal.pick_child-i-requires
pick_child-i-requires g t c = record {
  within = kids-within g.K.Kind.meaning c.args.nodes.now (c.args.tree.height - 1) c.args.tree.root c.read-n.result c.read-n.ensures (sound-up g.K.Kind.meaning c.args.nodes.now c.args.tree.height c.args.tree.root c.if-tree-eq0.false c.requires);
  some = kids-some g.K.Kind.meaning c.args.nodes.now (c.args.tree.height - 1) c.args.tree.root c.read-n.result c.read-n.ensures (sound-up g.K.Kind.meaning c.args.nodes.now c.args.tree.height c.args.tree.root c.if-tree-eq0.false c.requires);
}

pub take_out-requires : goal.take_out-requires
take_out-requires g t c κs within =
    (omega arith, (within.0, (within.1.0, (within.1.1.0, (within.1.1.1, subst (λ q. Sound (length c.args.nodes.now) (c.args.tree.height - 1) (tree_at g.K.Kind.meaning c.args.nodes.now (c.args.tree.height - 1) q)) (sym c.at.ensures) (kid-sound g.K.Kind.meaning c.args.nodes.now (c.args.tree.height - 1) c.args.tree.root c.read-n.result c.read-n.ensures (sound-up g.K.Kind.meaning c.args.nodes.now c.args.tree.height c.args.tree.root c.if-tree-eq0.false c.requires) c.pick_child-i.result c.pick_child-i.ensures.below))))))

pub returns : goal.returns
returns g t c =
    let below = subst (λ q. Became g.K.Kind.meaning c.args.nodes.now c.take_out.new.nodes (c.args.tree.height - 1) q (take_out g.K.Kind.meaning (c.args.tree.height - 1) c.args.key (tree_at g.K.Kind.meaning c.args.nodes.now (c.args.tree.height - 1) q))) c.at.ensures c.take_out.ensures in
    became-up g.K.Kind.meaning c.args.nodes.now c.args.tree.height c.args.tree.root c.if-tree-eq0.false c.take_out.new.nodes (λ k. take_out g.K.Kind.meaning k c.args.key)
    (take_on g.K.Kind.meaning c.args.nodes.now (c.args.tree.height - 1) c.args.tree.root c.read-n.result c.read-n.ensures (sound-up g.K.Kind.meaning c.args.nodes.now c.args.tree.height c.args.tree.root c.if-tree-eq0.false c.requires) c.take_out.new.nodes c.take_out.auto.nodes c.pick_child-i.result c.pick_child-i.ensures.below c.args.key (sym c.keeps_key.ensures ∙ c.if-keeps_key.false) c.pick_child-i.ensures.is below)
