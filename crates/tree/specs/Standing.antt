-- The tree that stands in a table, by its header.
use Rattle.std.specs.Prelude.{◌≡◌, ℕ, ◌+◌, ◌≤◌, cond, List, length, ◌==◌}
use Rattle.kinds.specs.Meaning.{Meaning}
use Rattle.plain.specs.declared.point.Point.{Point}
use Rattle.refusals.specs.Limits.{most_nodes}
use Rattle.trees.specs.Tree.{Forest, none, more, points_all, uses_all, size_all}
use Rattle.shapes.specs.Shape.{occurs, Holds}
use Rattle.shapes.specs.Settles.{Whole}
use Rattle.table.specs.declared.node.Node.{Node}
use Rattle.table.specs.declared.header.Header.{Header}
use Rattle.table.specs.Spares.{spares}
use Rattle.table.specs.Reading.{tree_at, inside}

module _ {C W R : Type 0} (m : Meaning C W R) (ns : List (Node C R)) (hd : Header) where
  -- none without points, else the tree at the root
  abbrev pub forest_of : Forest C W
  forest_of = cond (hd.count == 0) none (more (tree_at m ns hd.top.height hd.top.root) none)

  -- its points, in key order where the rules hold
  abbrev pub points_of : List (Point C W)
  points_of = points_all forest_of

  -- what needs no order: the tree's shape, and that each place of the table is either a node of the tree or free
  pub record Standing : Type 0 where
    pub small : length ns ≤ most_nodes
    pub holds : Holds hd.top.height forest_of
    pub places : (q : ℕ) → uses_all forest_of q + occurs q (spares ns hd.free) ≡ inside (length ns) q
    pub free : size_all forest_of + length (spares ns hd.free) ≡ length ns
    pub counted : hd.count ≡ length points_of

  -- the rules, kept points included
  abbrev pub Ruled : Type 0
  Ruled = Whole m hd.top.height forest_of
