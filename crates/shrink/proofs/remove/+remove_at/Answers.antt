use Rattle.std.proofs.Common.{ℕ, ◌-◌, ◌<◌, ◌∷◌, length, sym, ap, ◌∙◌, subst, arith}
use Rattle.table.specs.Kids.{kids_of}
use Rattle.table.specs.Spares.{spares}
use Rattle.table.proofs.Steps.{sound-within, kids-some, kids-within}
use Rattle.shrink.specs.Removes.{Renewed}
use Rattle.shrink.proofs.Lists.{first_left, some_left}
use Rattle.shrink.proofs.Renews.{renewed}
use Rattle.shrink.proofs.Removes.{ready-sound, ready-up, removed-down, two, here, within, child-givable, removed-leaf, child-ready, mendable, removed-fork}
use Rattle.shrink.proofs.remove.+remove_at.Goals as goal

pub read-n-requires : goal.read-n-requires
read-n-requires g t c = sound-within g.K.Kind.meaning c.args.nodes.now c.args.tree.height c.args.tree.root (ready-sound c.requires)

pub pick_child-i-requires : goal.pick_child-i-requires
pick_child-i-requires g t c =
    let m = g.K.Kind.meaning in
    let a = c.args.nodes.now in
    let s = ready-sound (ready-up c.requires) in
    record {
      within = kids-within m a (c.args.tree.height - 1) c.args.tree.root c.read-n.result c.read-n.ensures s;
      some = kids-some m a (c.args.tree.height - 1) c.args.tree.root c.read-n.result c.read-n.ensures s;
    }

pub give-requires : goal.give-requires
give-requires g t c =
    rw c.at.ensures (child-givable (ready-up c.requires) c.read-n.ensures c.pick_child-i.result c.pick_child-i.ensures.below)

pub rewrite-requires : goal.rewrite-requires
rewrite-requires g t c =
    let s = ready-up c.requires in
    let is = c.read-n.ensures in
    let i = c.pick_child-i.result in
    let lt = c.pick_child-i.ensures.below in
    let ps = kids_of c.read-n.result.children in
    rw (c.remove.ensures, c.give.auto.nodes)
    (record { within = here s is i lt; some = some_left i ps lt (two s is i lt); first = first_left (λ q. q < length c.args.nodes.now) i ps (two s is i lt) (within s is i lt) })

pub returns-then-child-eq0 : goal.returns-then-child-eq0
returns-then-child-eq0 g t c =
    let m = g.K.Kind.meaning in
    let s = ready-up c.requires in
    let is = c.read-n.ensures in
    let i = c.pick_child-i.result in
    let lt = c.pick_child-i.ensures.below in
    let ps = kids_of c.read-n.result.children in
    let some = subst (λ qs. 0 < length qs) (sym c.remove.ensures) (some_left i ps lt (two s is i lt)) in
    let at = subst (λ k. c.args.tree.root < k) (sym c.give.auto.nodes) (here s is i lt) in
    let again = subst (Renewed m c.give.new.nodes c.rewrite.new.nodes c.args.tree.root c.read-n.result) c.remove.ensures (renewed m at some c.rewrite.ensures) in
    let given = c.give.ensures.spares ∙ ap (λ (x : ℕ). x ∷ spares c.args.nodes.now c.args.free.now) c.at.ensures in
    removed-down c.requires.above
    (removed-leaf s is i lt c.args.key c.pick_child-i.ensures.is c.give.new.nodes (λ q z. c.give.ensures.frame q (λ e. z (e ∙ c.at.ensures))) c.if-child-eq0.true given c.rewrite.auto.nodes again)

pub remove_at-requires : goal.remove_at-requires
remove_at-requires g t c κs within =
    let ready = child-ready (ready-up c.requires) c.read-n.ensures c.pick_child-i.result c.pick_child-i.ensures.below (omega arith) c.args.key in
    (omega arith, (within.0, (within.1.0, (within.1.1.0, (within.1.1.1, rw c.at.ensures ready)))))

pub mend-requires : goal.mend-requires
mend-requires g t c =
    let rem = rw c.at.ensures at c.remove_at.ensures in
    mendable (ready-up c.requires) c.read-n.ensures c.pick_child-i.result c.pick_child-i.ensures.below (omega arith) c.args.key c.remove_at.auto.nodes rem

pub returns : goal.returns
returns g t c =
    let rem = rw c.at.ensures at c.remove_at.ensures in
    removed-down c.requires.above
    (removed-fork (ready-up c.requires) c.read-n.ensures c.pick_child-i.result c.pick_child-i.ensures.below (omega arith) c.args.key c.remove_at.auto.nodes rem c.pick_child-i.ensures.is c.mend.ensures)
