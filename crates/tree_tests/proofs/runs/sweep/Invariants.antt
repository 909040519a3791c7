use Rattle.std.proofs.Common.{◌≡◌}
use Rattle.tree_tests.proofs.runs.sweep.Given as goal

-- the trial still holds the table that it was lent
abbrev pub invariant-loop-i : goal.invariant-loop-i
invariant-loop-i g l = l.trial.nodes.ghost_name ≡ l.initial.trial.nodes.ghost_name
