use Rattle.std.proofs.Common.{◌≡◌, suc, ◌-◌, ◌<◌, length, get_or, set, Some, sym, ap, ◌∙◌, subst, arith, length-set}
use Rattle.std.specs.List.{slice_get}
use Rattle.trees.specs.Tree.{grow}
use Rattle.trees.specs.Kept.{pull}
use Rattle.trees.specs.Moves.{settled}
use Rattle.table.specs.Kids.{kids_of}
use Rattle.table.specs.Reading.{tree_at, Sound, Became}
use Rattle.table.proofs.Cases.{few}
use Rattle.table.proofs.Steps.{sound-within}
use Rattle.table.specs.Nodes.{bare}
use Rattle.tree.proofs.Settles.{tree-sound, laid-sound, laid-over, laid-frame}
use Rattle.tree.proofs.settle.settle.Goals as goal

pub read-first-requires : goal.read-first-requires
read-first-requires g c =
    subst (λ q. q < length c.args.nodes.now) (sym c.at.ensures)
    (sound-within g.K.Kind.meaning c.args.nodes.now (c.args.tree.height - 1) (get_or (kids_of c.args.children) 0 0) (tree-sound g.K.Kind.meaning c.args.nodes.now (c.args.tree.height - 1) (kids_of c.args.children) c.requires.sounds 0 c.requires.some))

pub pull-requires : goal.pull-requires
pull-requires g c =
    let first-is = subst (λ q. slice_get c.args.nodes.now q ≡ Some c.read-first.result) c.at.ensures c.read-first.ensures in
    let H = c.args.tree.height in
    let up : suc (H - 1) ≡ H = omega (arith, c.requires.above) in
    let written : c.write.new.nodes ≡ (set c.args.nodes.now c.args.tree.root (bare c.read-first.result.own c.args.children)) = c.write.ensures ∙ ap (λ n. set c.args.nodes.now c.args.tree.root n) c.bare.ensures in
    subst (λ e. Sound (length e) H (tree_at g.K.Kind.meaning e H c.args.tree.root)) (sym written)
    (subst (λ k. Sound (length (set c.args.nodes.now c.args.tree.root (bare c.read-first.result.own c.args.children))) k (tree_at g.K.Kind.meaning (set c.args.nodes.now c.args.tree.root (bare c.read-first.result.own c.args.children)) k c.args.tree.root)) up
    (laid-sound g.K.Kind.meaning c.args.nodes.now (c.args.tree.height - 1) c.args.tree.root c.args.children c.requires.within c.requires.some (few c.args.children) c.requires.sounds c.requires.apart c.read-first.result first-is (length-set c.args.nodes.now c.args.tree.root (bare c.read-first.result.own c.args.children))))

pub returns : goal.returns
returns g c =
    let first-is = subst (λ q. slice_get c.args.nodes.now q ≡ Some c.read-first.result) c.at.ensures c.read-first.ensures in
    let H = c.args.tree.height in
    let up : H ≡ suc (H - 1) = omega (arith, c.requires.above) in
    let b = c.pull.new.nodes in
    let d = set c.args.nodes.now c.args.tree.root (bare c.read-first.result.own c.args.children) in
    let written : c.write.new.nodes ≡ d = c.write.ensures ∙ ap (λ n. set c.args.nodes.now c.args.tree.root n) c.bare.ensures in
    let bec = subst (λ k. Became g.K.Kind.meaning d b k c.args.tree.root (pull g.K.Kind.meaning k (tree_at g.K.Kind.meaning d k c.args.tree.root))) up (subst (λ e. Became g.K.Kind.meaning e b H c.args.tree.root (pull g.K.Kind.meaning H (tree_at g.K.Kind.meaning e H c.args.tree.root))) written c.pull.ensures) in
    record {
      tree = λ k. subst (λ j. tree_at g.K.Kind.meaning b j c.args.tree.root ≡ settled g.K.Kind.meaning j c.args.tree.root k (grow (tree_at g.K.Kind.meaning c.args.nodes.now (H - 1)) (kids_of c.args.children))) (sym up) (laid-over g.K.Kind.meaning c.args.nodes.now (c.args.tree.height - 1) c.args.tree.root c.args.children c.requires.within c.requires.some (few c.args.children) c.requires.sounds c.requires.apart c.read-first.result first-is b bec k);
      frame = laid-frame g.K.Kind.meaning c.args.nodes.now (c.args.tree.height - 1) c.args.tree.root c.args.children c.requires.within c.requires.some (few c.args.children) c.requires.sounds c.requires.apart c.read-first.result first-is b bec;
    }
