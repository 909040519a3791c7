use Rattle.build.specs.Leaves.{laid_at}
use Rattle.build.specs.Stages.{tree_over, Raising}
use Rattle.build.proofs.build.build.Given as goal

-- the levels laid so far
abbrev pub invariant-loop-level : goal.invariant-loop-level
invariant-loop-level g l =
    Raising g.K.Kind.meaning l.nodes l.count (laid_at g.K.Kind.meaning l.initial.nodes l.count) (tree_over g.K.Kind.meaning l.initial.nodes l.count) l.level.first l.level.count l.level.height

abbrev pub decreases-loop-level : goal.decreases-loop-level
decreases-loop-level g l = l.level.count
