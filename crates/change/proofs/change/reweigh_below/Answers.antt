use Rattle.trees.specs.Kept.{push, take_out, weigh}
use Rattle.trees.proofs.Bares.{take_bare, weigh-bare}
use Rattle.change.proofs.Weighs.{sound-after, became-after}
use Rattle.change.proofs.change.reweigh_below.Goals as goal

pub weigh-requires : goal.weigh-requires
weigh-requires g c =
    let m = g.K.Kind.meaning in
    let h = c.args.tree.height in
    let k = c.args.key in
    sound-after m c.args.nodes.now c.take_out.new.nodes h c.args.tree.root (take_out m h k) (take_bare m h k) c.take_out.ensures c.take_out.auto.nodes c.requires

pub push-requires : goal.push-requires
push-requires g c =
    let m = g.K.Kind.meaning in
    let h = c.args.tree.height in
    let k = c.args.key in
    let w = m.recalled c.args.weight in
    sound-after m c.take_out.new.nodes c.weigh.new.nodes h c.args.tree.root (weigh m h k w) (weigh-bare m h k w) c.weigh.ensures c.weigh.auto.nodes
    (sound-after m c.args.nodes.now c.take_out.new.nodes h c.args.tree.root (take_out m h k) (take_bare m h k) c.take_out.ensures c.take_out.auto.nodes c.requires)

pub returns : goal.returns
returns g c =
    let m = g.K.Kind.meaning in
    let h = c.args.tree.height in
    let p = c.args.tree.root in
    let k = c.args.key in
    let w = m.recalled c.args.weight in
    let pushed = rw c.stored.ensures at c.push.ensures in
    became-after m c.args.nodes.now c.take_out.new.nodes h p (take_out m h k) (take_bare m h k) c.take_out.ensures c.push.new.nodes (λ t. push m h (record { key = k; weight = w }) (weigh m h k w t))
    (became-after m c.take_out.new.nodes c.weigh.new.nodes h p (weigh m h k w) (weigh-bare m h k w) c.weigh.ensures c.push.new.nodes (push m h (record { key = k; weight = w })) pushed)
