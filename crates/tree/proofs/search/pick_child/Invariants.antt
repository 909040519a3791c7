use Rattle.std.proofs.Common.{◌≡◌, ◌+◌, drop}
use Rattle.tree.specs.Places.{run_at}
use Rattle.tree.proofs.search.pick_child.Given as goal

-- none of the later children so far is after the key
abbrev pub invariant-loop-i : goal.invariant-loop-i
invariant-loop-i g l = l.i + run_at g.K.Kind.meaning l.nodes l.key (drop l.i l.later) ≡ run_at g.K.Kind.meaning l.nodes l.key l.later
