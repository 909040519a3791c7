-- The rules of kept points by sums over points: a sum over every f counts each point, so equal sums for all f say that the same points are kept, each as often.
use Rattle.std.specs.Prelude.{◌≡◌, ℕ, ◌+◌, ◌≤◌, cond, List, [], ◌∷◌, Some, None, Option}
use Rattle.std.specs.Ordering.{is_lt}
use Rattle.kinds.specs.Meaning.{Meaning}
use Rattle.plain.specs.declared.point.Point.{Point}
use Rattle.plain.specs.Points.{rank_order}
use Rattle.plain.specs.Set.{Rising, AllFit}
use Rattle.trees.specs.Tree.{Tree, Forest, gone, leaf, fork, none, more, points, points_all}
use Rattle.trees.specs.Rules.{Keyed, KeyedAll, Level, LevelAll}

module _ {C W : Type 0} where
  -- the sum of f over points
  abbrev pub total : (Point C W → ℕ) → List (Point C W) → ℕ
  total f [] = 0
  total f (x ∷ xs) = f x + total f xs

  -- over the point that a node keeps, if any
  abbrev pub held : (Point C W → ℕ) → Option (Point C W) → ℕ
  held f None = 0
  held f (Some x) = f x

  abbrev mutual
    -- over the points that a tree keeps
    pub tally : Tree C W → (Point C W → ℕ) → ℕ
    tally (gone p) f = 0
    tally (leaf p x o) f = held f o
    tally (fork p k o ts) f = held f o + tally_all ts f

    pub tally_all : Forest C W → (Point C W → ℕ) → ℕ
    tally_all none f = 0
    tally_all (more t ts) f = tally t f + tally_all ts f

  -- over those that it keeps below its root
  abbrev pub below : Tree C W → (Point C W → ℕ) → ℕ
  below (gone p) f = 0
  below (leaf p x o) f = 0
  below (fork p k o ts) f = tally_all ts f

  -- x is a point of the tree beside those that it keeps
  abbrev pub Room : Point C W → Tree C W → Type 0
  Room x t = (f : Point C W → ℕ) → f x + tally t f ≤ total f (points t)

  -- the same of the trees of a forest together
  abbrev pub RoomAll : Point C W → Forest C W → Type 0
  RoomAll x ts = (f : Point C W → ℕ) → f x + tally_all ts f ≤ total f (points_all ts)

  -- x is one of the points kept
  abbrev pub KeptIn : Point C W → Tree C W → Type 0
  KeptIn x t = (f : Point C W → ℕ) → f x ≤ tally t f

  -- all points are kept, each once
  abbrev pub Full : Tree C W → Type 0
  Full t = (f : Point C W → ℕ) → tally t f ≡ total f (points t)

module _ {C W R : Type 0} (m : Meaning C W R) where
  -- 1 for a point that may not be kept below a node that keeps o: the node keeps none, or a point that it precedes
  abbrev pub over : Option (Point C W) → Point C W → ℕ
  over None z = 1
  over (Some y) z = cond (is_lt (rank_order m z y)) 1 0

  abbrev mutual
    -- what a tree keeps is among its points, and below a node stands nothing that may not
    pub Heap : Tree C W → Type 0
    Heap (gone p) = Unit {0}
    Heap (leaf p x o) = (f : Point C W → ℕ) → held f o ≤ f x
    Heap (fork p k o ts) = ((f : Point C W → ℕ) → held f o + tally_all ts f ≤ total f (points_all ts)) × (tally_all ts (over o) ≡ 0) × HeapAll ts

    pub HeapAll : Forest C W → Type 0
    HeapAll none = Unit {0}
    HeapAll (more t ts) = Heap t × HeapAll ts

  -- the same for all but the root
  abbrev pub HeapBelow : Tree C W → Type 0
  HeapBelow (gone p) = Unit {0}
  HeapBelow (leaf p x o) = Unit {0}
  HeapBelow (fork p k o ts) = HeapAll ts

  -- points in key order, all fit
  abbrev pub Good : List (Point C W) → Type 0
  Good ps = Rising m ps × AllFit m ps

  -- a tree on which points can move: of height h, its keys recorded, its points good
  pub record Sorted (h : ℕ) (t : Tree C W) : Type 0 where
    pub level : Level t h
    pub keyed : Keyed t
    pub good : Good (points t)

  -- the same of some trees, one after the other
  pub record SortedAll (h : ℕ) (ts : Forest C W) : Type 0 where
    pub level : LevelAll ts h
    pub keyed : KeyedAll ts
    pub good : Good (points_all ts)
