use Rattle.std.proofs.Common.{◌≡◌, ◌∷◌, [], length, ◌∙◌, arith}
use Rattle.table.specs.Kids.{kids_of}
use Rattle.table.specs.Reading.{point_in}
use Rattle.table.proofs.Cases.{few}
use Rattle.table.proofs.Steps.{kids-some, kids-within}
use Rattle.tree.proofs.Heights.{up}
use Rattle.grow.proofs.Readies.{ready_up, ready-sound, root-within}
use Rattle.grow.proofs.Forked.{child-ready, fits, spare-left, spares-in, first-within}
use Rattle.grow.proofs.Overflows.{next-places, same-places, ready-to-split, split-grown}
use Rattle.grow.proofs.insert.+insert_at.Goals as goal

pub read-n-requires : goal.read-n-requires
read-n-requires g t c = root-within c.requires

pub pick_child-i-requires : goal.pick_child-i-requires
pick_child-i-requires g t c =
    let sound = ready-sound (ready_up c.if-tree-eq0.false c.requires) in
    record { within = kids-within g.K.Kind.meaning _ _ _ _ c.read-n.ensures sound; some = kids-some g.K.Kind.meaning _ _ _ _ c.read-n.ensures sound }

pub insert_at-requires : goal.insert_at-requires
insert_at-requires g t c κs within = (omega arith, (within.0, (within.1.0, (within.1.1.0, (within.1.1.1, rw (c.at.ensures) (child-ready (ready_up c.if-tree-eq0.false c.requires) c.read-n.ensures c.pick_child-i.result c.pick_child-i.ensures.below))))))

pub rewrite-requires-clause-within : goal.rewrite-requires-clause-within
rewrite-requires-clause-within g t c = omega (arith, root-within c.requires, c.insert_at.auto.nodes)

pub rewrite-requires-clause-first : goal.rewrite-requires-clause-first
rewrite-requires-clause-first g t c =
    rw (c.insert_at.auto.nodes)
    (first-within (ready_up c.if-tree-eq0.false c.requires) c.read-n.ensures c.pick_child-i.result c.pick_child-i.ensures.below [] c.read-n.result.children (same-places c.pick_child-i.result (kids_of c.read-n.result.children) c.pick_child-i.ensures.below))

pub returns-in_default : goal.returns-in_default
returns-in_default g t c =
    rw (c.rewrite.ensures.after, up c.args.tree.height c.if-tree-eq0.false)
    (fits (ready_up c.if-tree-eq0.false c.requires) c.read-n.ensures c.pick_child-i.result c.pick_child-i.ensures.below (point_in g.K.Kind.meaning c.args.x) (rw (c.at.ensures, c.in_default.is) at c.insert_at.ensures) c.insert_at.auto.nodes c.read-n.result.children c.rewrite.ensures.first (same-places c.pick_child-i.result (kids_of c.read-n.result.children) c.pick_child-i.ensures.below) c.rewrite.ensures.is (rw (c.key.ensures) at c.pick_child-i.ensures.is))

pub rewrite-requires-then-len-lt4-clause-within : goal.rewrite-requires-then-len-lt4-clause-within
rewrite-requires-then-len-lt4-clause-within g t c = omega (arith, root-within c.requires, c.insert_at.auto.nodes)

pub rewrite-requires-then-len-lt4-clause-first : goal.rewrite-requires-then-len-lt4-clause-first
rewrite-requires-then-len-lt4-clause-first g t c =
    rw (c.insert_at.auto.nodes)
    (first-within (ready_up c.if-tree-eq0.false c.requires) c.read-n.ensures c.pick_child-i.result c.pick_child-i.ensures.below (c.in-Some.q ∷ []) c.insert.result (c.insert.ensures ∙ next-places c.pick_child-i.result c.in-Some.q (kids_of c.read-n.result.children) c.pick_child-i.ensures.below))

pub returns-then-len-lt4 : goal.returns-then-len-lt4
returns-then-len-lt4 g t c =
    rw (c.rewrite-then-len-lt4.ensures.after, up c.args.tree.height c.if-tree-eq0.false)
    (fits (ready_up c.if-tree-eq0.false c.requires) c.read-n.ensures c.pick_child-i.result c.pick_child-i.ensures.below (point_in g.K.Kind.meaning c.args.x) (rw (c.at.ensures, c.in-Some.is) at c.insert_at.ensures) c.insert_at.auto.nodes c.insert.result c.rewrite-then-len-lt4.ensures.first (c.insert.ensures ∙ next-places c.pick_child-i.result c.in-Some.q (kids_of c.read-n.result.children) c.pick_child-i.ensures.below) c.rewrite-then-len-lt4.ensures.is (rw (c.key.ensures) at c.pick_child-i.ensures.is))

pub take-next-requires-clause-some : goal.take-next-requires-clause-some
take-next-requires-clause-some g t c = spare-left (ready_up c.if-tree-eq0.false c.requires) c.read-n.ensures c.pick_child-i.result c.pick_child-i.ensures.below (point_in g.K.Kind.meaning c.args.x) (rw (c.at.ensures, c.in-Some.is) at c.insert_at.ensures) c.insert_at.auto.nodes (omega (arith, few c.read-n.result.children))

pub take-next-requires-clause-within : goal.take-next-requires-clause-within
take-next-requires-clause-within g t c = spares-in (ready_up c.if-tree-eq0.false c.requires) c.read-n.ensures c.pick_child-i.result c.pick_child-i.ensures.below (point_in g.K.Kind.meaning c.args.x) (rw (c.at.ensures, c.in-Some.is) at c.insert_at.ensures) c.insert_at.auto.nodes

pub split-requires : goal.split-requires
split-requires g t c =
    let four : length (kids_of c.read-n.result.children) ≡ 4 = omega (arith, few c.read-n.result.children) in
    rw (c.halve.ensures.left, c.halve.ensures.right, up c.args.tree.height c.if-tree-eq0.false)
    (ready-to-split (ready_up c.if-tree-eq0.false c.requires) c.read-n.ensures c.pick_child-i.result c.pick_child-i.ensures.below (point_in g.K.Kind.meaning c.args.x) (rw (c.at.ensures, c.in-Some.is) at c.insert_at.ensures) c.insert_at.auto.nodes four _ c.take-next.ensures)

pub returns : goal.returns
returns g t c =
    let four : length (kids_of c.read-n.result.children) ≡ 4 = omega (arith, few c.read-n.result.children) in
    let halves = rw (c.halve.ensures.left, c.halve.ensures.right, up c.args.tree.height c.if-tree-eq0.false) at c.split.ensures in
    rw (up c.args.tree.height c.if-tree-eq0.false)
    (split-grown (ready_up c.if-tree-eq0.false c.requires) c.read-n.ensures c.pick_child-i.result c.pick_child-i.ensures.below (point_in g.K.Kind.meaning c.args.x) (rw (c.at.ensures, c.in-Some.is) at c.insert_at.ensures) c.insert_at.auto.nodes four _ c.take-next.ensures (rw (c.key.ensures) at c.pick_child-i.ensures.is) c.split.new.nodes c.split.auto.nodes halves)
