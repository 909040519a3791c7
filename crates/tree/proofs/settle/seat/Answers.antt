use Rattle.std.proofs.Common.{length, sym, ap, ◌∙◌, subst}
use Rattle.trees.specs.Kept.{push}
use Rattle.table.specs.Kids.{kids_of}
use Rattle.table.specs.Reading.{point_in, tree_at, Sound, Became}
use Rattle.tree.specs.Places.{pick_at}
use Rattle.tree.proofs.Settles.{tree-sound, trees-within, seated-some}
use Rattle.tree.proofs.settle.seat.Goals as goal

pub pick_child-i-requires : goal.pick_child-i-requires
pick_child-i-requires g c = record { within = trees-within g.K.Kind.meaning c.args.nodes.now c.args.height (kids_of c.args.trees) c.requires.sounds; some = c.requires.some }

pub push-requires : goal.push-requires
push-requires g c =
    subst (λ q. Sound (length c.args.nodes.now) c.args.height (tree_at g.K.Kind.meaning c.args.nodes.now c.args.height q)) (sym c.at-root.ensures)
    (tree-sound g.K.Kind.meaning c.args.nodes.now c.args.height (kids_of c.args.trees) c.requires.sounds c.pick_child-i.result c.pick_child-i.ensures.below)

pub returns : goal.returns
returns g c =
    let x = point_in g.K.Kind.meaning c.args.x in
    seated-some g.K.Kind.meaning c.args.nodes.now c.push.new.nodes c.args.height (kids_of c.args.trees) c.requires.sounds x c.pick_child-i.result c.pick_child-i.ensures.below
    (c.pick_child-i.ensures.is ∙ ap (λ k. pick_at g.K.Kind.meaning c.args.nodes.now k (kids_of c.args.trees)) c.key.ensures)
    (subst (λ q. Became g.K.Kind.meaning c.args.nodes.now c.push.new.nodes c.args.height q (push g.K.Kind.meaning c.args.height x (tree_at g.K.Kind.meaning c.args.nodes.now c.args.height q))) c.at-root.ensures c.push.ensures)
