use Rattle.build.specs.Leaves.{Leaves}
use Rattle.tree_tests.proofs.runs.built.Given as goal

abbrev pub invariant-loop-i : goal.invariant-loop-i
invariant-loop-i g l = Leaves g.K.Kind.meaning l.nodes l.i
