use Rattle.std.proofs.Common.{◌+◌, ◌<◌, length, sym, subst, arith}
use Rattle.table.specs.Kids.{kids_of}
use Rattle.shrink.specs.Removes.{Renewed}
use Rattle.shrink.proofs.Lists.{first-left-if, some-left-if}
use Rattle.shrink.proofs.Renews.{renewed}
use Rattle.shrink.proofs.Mends.{node-within, child-within, mended-rich, joinable, mended-poor}
use Rattle.shrink.proofs.remove.mend.Goals as goal

pub read-child-requires : goal.read-child-requires
read-child-requires g c = rw c.at.ensures (child-within c.requires c.args.i c.requires.index)

pub rewrite-requires : goal.rewrite-requires
rewrite-requires g c =
    let s = c.requires in
    record { within = node-within s; some = omega (arith, s.two); first = child-within s 0 (omega (arith, s.two)) }

pub returns-then-len-ge2 : goal.returns-then-len-ge2
returns-then-len-ge2 g c =
    let s = c.requires in
    let is = rw c.at.ensures at c.read-child.ensures in
    mended-rich s is (omega (arith, c.len.ensures, c.if-len-ge2.true)) c.rewrite.auto.nodes (renewed g.K.Kind.meaning (node-within s) (omega (arith, s.two)) c.rewrite.ensures)

pub join-one-requires : goal.join-one-requires
join-one-requires g c =
    let s = c.requires in
    let is = rw c.at.ensures at c.read-child.ensures in
    let poor : length (kids_of c.read-child.result.children) < 2 = omega (arith, c.len.ensures, c.if-len-ge2.false) in
    let j = c.saturating_sub-j.ensures in
    joinable s is poor j c.at-2.ensures c.at-3.ensures

pub rewrite-requires-2 : goal.rewrite-requires-2
rewrite-requires-2 g c =
    let s = c.requires in
    let ps = kids_of c.args.n.children in
    let i = c.saturating_sub-j.result + 1 in
    let lt : i < length ps = omega (arith, c.saturating_sub-j.ensures, s.index, s.two) in
    rw (c.left_over.ensures, c.join-one.auto.nodes)
    (record { within = node-within s; some = some-left-if c.join-one.result i ps lt s.two; first = first-left-if (λ q. q < length c.args.nodes.now) c.join-one.result i ps s.two (child-within s) })

pub returns : goal.returns
returns g c =
    let s = c.requires in
    let is = rw c.at.ensures at c.read-child.ensures in
    let poor : length (kids_of c.read-child.result.children) < 2 = omega (arith, c.len.ensures, c.if-len-ge2.false) in
    let ps = kids_of c.args.n.children in
    let i = c.saturating_sub-j.result + 1 in
    let lt : i < length ps = omega (arith, c.saturating_sub-j.ensures, s.index, s.two) in
    let some = subst (λ qs. 0 < length qs) (sym c.left_over.ensures) (some-left-if c.join-one.result i ps lt s.two) in
    let within = subst (λ k. c.args.tree.root < k) (sym c.join-one.auto.nodes) (node-within s) in
    let again = renewed g.K.Kind.meaning within some c.rewrite-2.ensures in
    mended-poor s is poor c.saturating_sub-j.ensures c.at-2.ensures c.at-3.ensures c.join-one.auto.nodes c.join-one.ensures c.rewrite-2.auto.nodes
    (subst (Renewed g.K.Kind.meaning c.join-one.new.nodes c.rewrite-2.new.nodes c.args.tree.root c.args.n) c.left_over.ensures again)
