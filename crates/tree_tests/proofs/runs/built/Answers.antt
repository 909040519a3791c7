use Rattle.table.specs.Reading.{point_in}
use Rattle.build.proofs.Leaves.{laid_more}
use Rattle.tree_tests.proofs.runs.built.Goals as goal

pub loop-i-preserved : goal.loop-i-preserved
loop-i-preserved g c =
    let m = g.K.Kind.meaning in
    (laid_more m c.loop-i.nodes c.lay_leaf.new.nodes c.loop-i.i (point_in m c.point_of-x.result) c.loop-i.invariant c.lay_leaf.ensures.tree c.lay_leaf.ensures.frame).0
