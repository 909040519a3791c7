use Rattle.std.proofs.Common.{◌≤◌, arith}
use Rattle.build.specs.Leaves.{laid_at}
use Rattle.build.specs.Stages.{tree_over}
use Rattle.build.proofs.Levels.{raising-starts, raising-sounds, raising-less, raising-turns}
use Rattle.build.proofs.Roots.{rooted}
use Rattle.build.proofs.build.build.Goals as goal

pub loop-level-init : goal.loop-level-init
loop-level-init g c = raising-starts g.K.Kind.meaning c.args.nodes.now c.args.count c.requires.room c.requires.leaves

pub lay_level-level-requires-clause-sounds : goal.lay_level-level-requires-clause-sounds
lay_level-level-requires-clause-sounds g c =
    let m = g.K.Kind.meaning in
    let a = c.args.nodes.now in
    let n = c.args.count in
    let v = c.loop-level.level in
    raising-sounds m c.loop-level.nodes n (laid_at m a n) (tree_over m a n) v.first v.count v.height c.loop-level.invariant (omega arith)

pub loop-level-smaller : goal.loop-level-smaller
loop-level-smaller g c =
    let m = g.K.Kind.meaning in
    let a = c.args.nodes.now in
    let n = c.args.count in
    let v = c.loop-level.level in
    let two : 2 ≤ v.count = omega arith in
    raising-less m c.loop-level.nodes n (laid_at m a n) (tree_over m a n) v.first v.count v.height c.loop-level.invariant two c.lay_level-level.new.nodes c.lay_level-level.auto.nodes c.lay_level-level.result.count c.lay_level-level.ensures.trees

pub loop-level-preserved : goal.loop-level-preserved
loop-level-preserved g c =
    let m = g.K.Kind.meaning in
    let a = c.args.nodes.now in
    let n = c.args.count in
    let v = c.loop-level.level in
    let two : 2 ≤ v.count = omega arith in
    rw (c.lay_level-level.ensures.first, c.lay_level-level.ensures.height)
    (raising-turns m c.loop-level.nodes n (laid_at m a n) (tree_over m a n) v.first v.count v.height c.loop-level.invariant two c.lay_level-level.new.nodes c.lay_level-level.auto.nodes c.lay_level-level.result.count c.lay_level-level.ensures.trees)

pub returns : goal.returns
returns g c =
    let m = g.K.Kind.meaning in
    let a = c.args.nodes.now in
    let b = c.loop-level.nodes in
    let n = c.args.count in
    let v = c.loop-level.level in
    let done : v.count ≤ 1 = omega arith in
    let r = rooted m a b n v.first v.count v.height c.requires.leaves c.loop-level.invariant done c.header_of.result c.header_of.ensures (omega (arith, c.requires.small, c.loop-level.auto.nodes)) in
    record { standing = r.standing; counted = r.counted; tree = r.tree; points = r.points; ruled = r.ruled g.met.K.Kind.first g.met.K.Kind.second }
