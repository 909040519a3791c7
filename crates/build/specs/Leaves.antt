-- Leaves at the first places of a table.
use Rattle.std.specs.Prelude.{◌≡◌, ℕ, List}
use Rattle.kinds.specs.Meaning.{Meaning}
use Rattle.plain.specs.declared.point.Point.{Point}
use Rattle.trees.specs.Tree.{Forest, grow, points_all}
use Rattle.built.specs.Build.{leaves_from}
use Rattle.table.specs.declared.node.Node.{Node}
use Rattle.table.specs.Spares.{row}
use Rattle.table.specs.Reading.{tree_at}

module _ {C W R : Type 0} (m : Meaning C W R) (ns : List (Node C R)) (n : ℕ) where
  -- what lies at the first n places
  abbrev pub leaves_at : Forest C W
  leaves_at = grow (tree_at m ns 0) (row n 0)

  -- the points that lie there
  abbrev pub laid_at : List (Point C W)
  laid_at = points_all leaves_at

  -- leaves lie there, and each keeps its own point
  abbrev pub Leaves : Type 0
  Leaves = leaves_at ≡ leaves_from 0 laid_at
