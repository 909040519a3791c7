use Rattle.std.proofs.Common.{◌≡◌}
use Rattle.tree_tests.proofs.runs.churn.Given as goal

-- the trial still holds the table that it was lent
abbrev pub invariant-loop : goal.invariant-loop
invariant-loop g l = l.trial.nodes.ghost_name ≡ l.initial.trial.nodes.ghost_name
