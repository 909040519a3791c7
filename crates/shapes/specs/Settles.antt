-- What a change of one leaf does to points and to the points kept.
use Rattle.std.specs.Prelude.{◌≡◌, ℕ, List}
use Rattle.kinds.specs.Meaning.{Meaning}
use Rattle.plain.specs.declared.point.Point.{Point}
use Rattle.trees.specs.Tree.{Tree, Forest, points, points_all}
use Rattle.trees.specs.Heap.{total, tally, tally_all, Heap, HeapAll, Good, SortedAll}
use Rattle.shapes.specs.Shape.{Holds}

module _ {C W R : Type 0} (m : Meaning C W R) where
  -- trees of height h with the points ps, in which kept points stand as they should; sum is the sum over those
  pub record Settles (h : ℕ) (ps : List (Point C W)) (sum : (Point C W → ℕ) → ℕ) (us : Forest C W) : Type 0 where
    pub sorted : SortedAll m h us
    pub heap : HeapAll m us
    pub same : points_all us ≡ ps
    pub tallied : (f : Point C W → ℕ) → tally_all us f ≡ sum f

  -- the same of what stands in the place of one tree
  pub record Settled (ps : List (Point C W)) (sum : (Point C W → ℕ) → ℕ) (t : Tree C W) : Type 0 where
    pub heap : Heap m t
    pub same : points t ≡ ps
    pub tallied : (f : Point C W → ℕ) → tally t f ≡ sum f

  -- a tree, or none, that keeps all the rules
  pub record Whole (h : ℕ) (f : Forest C W) : Type 0 where
    pub holds : Holds h f
    pub good : Good m (points_all f)
    pub heap : HeapAll m f
    -- all points are kept, each once
    pub full : (g : Point C W → ℕ) → tally_all f g ≡ total g (points_all f)
