-- A point more in the whole tree.
use Rattle.std.specs.Prelude.{◌≡◌, ℕ, List}
use Rattle.kinds.specs.Meaning.{Meaning}
use Rattle.plain.specs.declared.point.Point.{Point}
use Rattle.trees.specs.Tree.{Forest, none, more}
use Rattle.trees.specs.Moves.{with_point}
use Rattle.table.specs.declared.node.Node.{Node}
use Rattle.table.specs.declared.free.Free.{Free}
use Rattle.table.specs.Spares.{spares}
use Rattle.table.specs.Reading.{tree_at}
use Rattle.grow.specs.Grown.{most, half}

-- between two tables, a tree of height h (or none) has become the tree of height i at p, by the point x; and the free places
pub record Planted {C W R : Type 0} (m : Meaning C W R) (a b : List (Node C R)) (f g : Free) (h : ℕ) (t : Forest C W) (x : Point C W) (i p : ℕ) : Type 0 where
  pub forest : more (tree_at m b i p) none ≡ (with_point m most half h x (spares a f) t).0
  pub height : i ≡ (with_point m most half h x (spares a f) t).1
  pub spare : spares b g ≡ (with_point m most half h x (spares a f) t).2
