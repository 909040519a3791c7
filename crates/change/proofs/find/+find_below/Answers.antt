use Rattle.std.proofs.Common.{◌-◌, length, sym, subst, arith}
use Rattle.table.specs.Reading.{tree_at, Sound}
use Rattle.table.proofs.Steps.{sound-within, kids-some, kids-within, kid-sound}
use Rattle.tree.proofs.Heights.{sound-up}
use Rattle.change.proofs.Founds.{found-on}
use Rattle.change.proofs.find.+find_below.Goals as goal

pub read-n-requires : goal.read-n-requires
read-n-requires g t c = sound-within g.K.Kind.meaning c.args.nodes.now c.args.tree.height c.args.tree.root c.requires

pub pick_child-i-requires : goal.pick_child-i-requires
pick_child-i-requires g t c =
    let m = g.K.Kind.meaning in
    let a = c.args.nodes.now in
    let s = sound-up m a c.args.tree.height c.args.tree.root c.if-tree-eq0.false c.requires in
    record {
      within = kids-within m a (c.args.tree.height - 1) c.args.tree.root c.read-n.result c.read-n.ensures s;
      some = kids-some m a (c.args.tree.height - 1) c.args.tree.root c.read-n.result c.read-n.ensures s;
    }

pub find_below-requires : goal.find_below-requires
find_below-requires g t c κs within =
    (omega arith, (within.0, (within.1.0, (within.1.1.0, (within.1.1.1, subst (λ q. Sound (length c.args.nodes.now) (c.args.tree.height - 1) (tree_at g.K.Kind.meaning c.args.nodes.now (c.args.tree.height - 1) q)) (sym c.at.ensures) (kid-sound g.K.Kind.meaning c.args.nodes.now (c.args.tree.height - 1) c.args.tree.root c.read-n.result c.read-n.ensures (sound-up g.K.Kind.meaning c.args.nodes.now c.args.tree.height c.args.tree.root c.if-tree-eq0.false c.requires) c.pick_child-i.result c.pick_child-i.ensures.below))))))

pub returns : goal.returns
returns g t c = found-on g.K.Kind.meaning c.args.nodes.now c.args.key c.args.tree.height c.args.tree.root c.read-n.result c.read-n.ensures c.if-tree-eq0.false c.pick_child-i.result c.pick_child-i.ensures.below c.pick_child-i.ensures.is c.at.result c.at.ensures c.find_below.result c.find_below.ensures
