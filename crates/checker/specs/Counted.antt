-- How many points there are, and how many are kept.
use Rattle.std.specs.Prelude.{◌≡◌, ◌+◌, length, Some, None, Option}
use Rattle.trees.specs.Tree.{Forest, points_all}
use Rattle.trees.specs.Rules.{kept_all}
use Rattle.checker.specs.declared.count.Counts.{Counts}

-- the sums of two counts, where they are not too large
abbrev pub Added : Counts → Counts → Option Counts → Type 0
Added a b None = Unit {0}
Added a b (Some s) = (s.points ≡ a.points + b.points) × (s.kept ≡ a.kept + b.kept)

-- the counts of some trees, where they are not too large
abbrev pub Counted : {C W : Type 0} → Forest C W → Option Counts → Type 0
Counted ts None = Unit {0}
Counted ts (Some s) = (s.points ≡ length (points_all ts)) × (s.kept ≡ length (kept_all ts))
