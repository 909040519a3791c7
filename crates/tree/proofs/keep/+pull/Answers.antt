use Rattle.std.proofs.Common.{◌≡◌, ◌-◌, length, Some, is_some, ap, sym, subst, arith}
use Rattle.std.specs.List.{slice_get}
use Rattle.table.specs.Reading.{point_in_any, tree_at, Sound, Became}
use Rattle.table.proofs.Steps.{sound-within, kids-some, kids-within, kid-sound}
use Rattle.tree.proofs.Heights.{sound-up, became-up}
use Rattle.trees.specs.Kept.{pull}
use Rattle.tree.proofs.Pulls.{pull-leaf, pull-stop, pull-on}
use Rattle.tree.proofs.keep.+pull.Goals as goal

pub read-n-requires : goal.read-n-requires
read-n-requires g t c = sound-within g.K.Kind.meaning c.args.nodes.now c.args.tree.height c.args.tree.root c.requires

pub write-requires : goal.write-requires
write-requires g t c = sound-within g.K.Kind.meaning c.args.nodes.now c.args.tree.height c.args.tree.root c.requires

pub write-requires-in_default : goal.write-requires-in_default
write-requires-in_default g t c = sound-within g.K.Kind.meaning c.args.nodes.now c.args.tree.height c.args.tree.root c.requires

pub returns-then-tree-eq0 : goal.returns-then-tree-eq0
returns-then-tree-eq0 g t c =
    rw (c.write.ensures, c.keeping.ensures)
    (pull-leaf g.K.Kind.meaning c.args.nodes.now c.args.tree.height c.args.tree.root c.read-n.result c.if-tree-eq0.true c.read-n.ensures (sound-within g.K.Kind.meaning c.args.nodes.now c.args.tree.height c.args.tree.root c.requires))

pub best_child-i-requires : goal.best_child-i-requires
best_child-i-requires g t c = record {
  within = kids-within g.K.Kind.meaning c.args.nodes.now (c.args.tree.height - 1) c.args.tree.root c.read-n.result c.read-n.ensures (sound-up g.K.Kind.meaning c.args.nodes.now c.args.tree.height c.args.tree.root c.if-tree-eq0.false c.requires);
  some = kids-some g.K.Kind.meaning c.args.nodes.now (c.args.tree.height - 1) c.args.tree.root c.read-n.result c.read-n.ensures (sound-up g.K.Kind.meaning c.args.nodes.now c.args.tree.height c.args.tree.root c.if-tree-eq0.false c.requires);
}

pub at-requires : goal.at-requires
at-requires g t c = c.best_child-i.ensures.below

pub read-top-requires : goal.read-top-requires
read-top-requires g t c = sound-within g.K.Kind.meaning c.args.nodes.now (c.args.tree.height - 1) c.at.result (subst (λ q. Sound (length c.args.nodes.now) (c.args.tree.height - 1) (tree_at g.K.Kind.meaning c.args.nodes.now (c.args.tree.height - 1) q)) (sym c.at.ensures) (kid-sound g.K.Kind.meaning c.args.nodes.now (c.args.tree.height - 1) c.args.tree.root c.read-n.result c.read-n.ensures (sound-up g.K.Kind.meaning c.args.nodes.now c.args.tree.height c.args.tree.root c.if-tree-eq0.false c.requires) c.best_child-i.result c.best_child-i.ensures.below))

pub returns-in_default : goal.returns-in_default
returns-in_default g t c =
    rw (c.write-in_default.ensures, c.keeping-in_default.ensures)
    (became-up g.K.Kind.meaning c.args.nodes.now c.args.tree.height c.args.tree.root c.if-tree-eq0.false _ (λ k. pull g.K.Kind.meaning k)
    (pull-stop g.K.Kind.meaning c.args.nodes.now (c.args.tree.height - 1) c.args.tree.root c.read-n.result c.read-n.ensures (sound-up g.K.Kind.meaning c.args.nodes.now c.args.tree.height c.args.tree.root c.if-tree-eq0.false c.requires) c.best_child-i.result c.best_child-i.ensures.is c.best_child-i.ensures.below c.read-top.result (subst (λ q. slice_get c.args.nodes.now q ≡ Some c.read-top.result) c.at.ensures c.read-top.ensures) c.in_default.is))

pub pull-requires : goal.pull-requires
pull-requires g t c κs within =
    (omega arith, (within.0, (within.1.0, (within.1.1.0, (within.1.1.1, subst (λ q. Sound (length c.args.nodes.now) (c.args.tree.height - 1) (tree_at g.K.Kind.meaning c.args.nodes.now (c.args.tree.height - 1) q)) (sym c.at.ensures) (kid-sound g.K.Kind.meaning c.args.nodes.now (c.args.tree.height - 1) c.args.tree.root c.read-n.result c.read-n.ensures (sound-up g.K.Kind.meaning c.args.nodes.now c.args.tree.height c.args.tree.root c.if-tree-eq0.false c.requires) c.best_child-i.result c.best_child-i.ensures.below))))))

pub write-requires-2 : goal.write-requires-2
write-requires-2 g t c = omega (arith, sound-within g.K.Kind.meaning c.args.nodes.now c.args.tree.height c.args.tree.root c.requires, c.pull.auto.nodes)

pub returns : goal.returns
returns g t c =
    let below = subst (λ q. Became g.K.Kind.meaning c.args.nodes.now c.pull.new.nodes (c.args.tree.height - 1) q (pull g.K.Kind.meaning (c.args.tree.height - 1) (tree_at g.K.Kind.meaning c.args.nodes.now (c.args.tree.height - 1) q))) c.at.ensures c.pull.ensures in
    rw (c.write-2.ensures, c.keeping-2.ensures)
    (became-up g.K.Kind.meaning c.args.nodes.now c.args.tree.height c.args.tree.root c.if-tree-eq0.false _ (λ k. pull g.K.Kind.meaning k)
    (pull-on g.K.Kind.meaning c.args.nodes.now (c.args.tree.height - 1) c.args.tree.root c.read-n.result c.read-n.ensures (sound-up g.K.Kind.meaning c.args.nodes.now c.args.tree.height c.args.tree.root c.if-tree-eq0.false c.requires) c.best_child-i.result c.best_child-i.ensures.is c.best_child-i.ensures.below c.read-top.result (subst (λ q. slice_get c.args.nodes.now q ≡ Some c.read-top.result) c.at.ensures c.read-top.ensures) c.pull.new.nodes c.pull.auto.nodes (ap (λ o. is_some (point_in_any g.K.Kind.meaning o)) c.in-Some.is) below))
