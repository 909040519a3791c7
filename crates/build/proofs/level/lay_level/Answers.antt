use Rattle.std.proofs.Common.{◌≡◌, suc, ◌+◌, ◌-◌, ◌<◌, subst, arith}
use Rattle.build.specs.Stages.{level_over, Laying}
use Rattle.build.proofs.Turns.{laying-starts, turn-ready, laying-turns, laying-ends}
use Rattle.build.proofs.level.lay_level.Goals as goal

pub loop-from-init : goal.loop-from-init
loop-from-init g c =
    let m = g.K.Kind.meaning in
    let a = c.args.nodes.now in
    let v = c.args.level in
    let all : v.count ≡ v.first + v.count - v.first = omega arith in
    subst (λ j. Laying m a v.height (v.first + v.count) (level_over m a v.height v.count v.first) v.first j 0) all (laying-starts m a v.height v.first v.count c.requires.some c.requires.room c.requires.sounds)

pub settle-requires : goal.settle-requires
settle-requires g c =
    let m = g.K.Kind.meaning in
    let v = c.args.level in
    let p = v.first + v.count in
    let from = c.loop-from.from in
    let some : 0 < p - from = omega arith in
    let up : v.height + 1 ≡ suc v.height = omega arith in
    turn-ready m c.loop-from.nodes v.height p (level_over m c.args.nodes.now v.height v.count v.first) from (p - from) c.loop-from.made c.loop-from.invariant some c.group_size-size.result c.group_size-size.ensures
    (v.height + 1) up c.in_row.result c.in_row.ensures

pub loop-from-preserved : goal.loop-from-preserved
loop-from-preserved g c =
    let m = g.K.Kind.meaning in
    let b = c.loop-from.nodes in
    let v = c.args.level in
    let p = v.first + v.count in
    let from = c.loop-from.from in
    let made = c.loop-from.made in
    let goal = level_over m c.args.nodes.now v.height v.count v.first in
    let some : 0 < p - from = omega arith in
    let up : v.height + 1 ≡ suc v.height = omega arith in
    let size = c.group_size-size.result in
    let less : p - from - size ≡ p - (from + size) = omega arith in
    subst (λ j. Laying m c.settle.new.nodes v.height p goal (from + size) j (made + 1)) less
    (laying-turns m b v.height p goal from (p - from) made c.loop-from.invariant some size c.group_size-size.ensures
    c.settle.new.nodes c.settle.auto.nodes (v.height + 1) up c.in_row.result c.in_row.ensures c.settle.ensures)

pub returns-clause-trees : goal.returns-clause-trees
returns-clause-trees g c =
    let m = g.K.Kind.meaning in
    let v = c.args.level in
    let p = v.first + v.count in
    let goal = level_over m c.args.nodes.now v.height v.count v.first in
    let none_left : p - c.loop-from.from ≡ 0 = omega arith in
    laying-ends m c.loop-from.nodes v.height p goal c.loop-from.from (p - c.loop-from.from) c.loop-from.made c.loop-from.invariant none_left
