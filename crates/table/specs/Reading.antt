-- The tree that a table holds.
use Rattle.std.specs.Prelude.{◌≡◌, ℕ, zero, suc, ◌≤◌, cond, List, Some, None, Option, nat_lt}
use Rattle.std.specs.List.{slice_get}
use Rattle.kinds.specs.Meaning.{Meaning}
use Rattle.plain.specs.declared.point.Point.{Point}
use Rattle.trees.specs.Tree.{Tree, Forest, gone, leaf, fork, grow, uses, uses_all}
use Rattle.trees.specs.Rules.{Level, LevelAll, Degrees, DegreesAll}
use Rattle.table.specs.declared.node.Node.{Node}
use Rattle.table.specs.declared.node.Stored.{Stored}
use Rattle.table.specs.declared.subtree.Subtree.{Subtree}
use Rattle.table.specs.Keys.{key_in}
use Rattle.table.specs.Kids.{kids_of}

module _ {C W R : Type 0} (m : Meaning C W R) where
  -- a stored point, its weight recalled
  abbrev pub point_in : Stored C R → Point C W
  point_in s = record { key = key_in s; weight = m.recalled s.weight }

  -- a stored point, if there is one
  abbrev pub point_in_any : Option (Stored C R) → Option (Point C W)
  point_in_any None = None
  point_in_any (Some s) = Some (point_in s)

  -- the point that a node keeps, if any
  abbrev pub kept_in : Node C R → Option (Point C W)
  kept_in n = point_in_any n.kept

  -- a leaf, by the node at its place
  abbrev pub leaf_of : ℕ → Option (Node C R) → Tree C W
  leaf_of p None = gone p
  leaf_of p (Some n) = leaf p (point_in n.own) (kept_in n)

  -- a fork over the trees at its children's places
  abbrev pub fork_of : (ℕ → Tree C W) → ℕ → Option (Node C R) → Tree C W
  fork_of at p None = gone p
  fork_of at p (Some n) = fork p (key_in n.own) (kept_in n) (grow at (kids_of n.children))

  -- the tree of height h at the place p
  abbrev pub tree_at : List (Node C R) → ℕ → ℕ → Tree C W
  tree_at ns zero p = leaf_of p (slice_get ns p)
  tree_at ns (suc h) p = fork_of (tree_at ns h) p (slice_get ns p)

  -- the tree of a root and a height
  abbrev pub tree_of : List (Node C R) → Subtree → Tree C W
  tree_of ns t = tree_at ns t.height t.root

-- 1 for a place of a table of n nodes
abbrev pub inside : ℕ → ℕ → ℕ
inside n q = cond (nat_lt q n) 1 0

-- a tree of height h that a table of n nodes can hold: each fork has 1 to 4 children, and each node a place of the table to itself
pub record Sound {C W : Type 0} (n h : ℕ) (t : Tree C W) : Type 0 where
  pub level : Level t h
  pub degrees : Degrees t 1 4
  pub apart : (q : ℕ) → uses t q ≤ inside n q

-- some trees side by side, likewise
pub record Sounds {C W : Type 0} (n h : ℕ) (ts : Forest C W) : Type 0 where
  pub level : LevelAll ts h
  pub degrees : DegreesAll ts 1 4
  pub apart : (q : ℕ) → uses_all ts q ≤ inside n q

-- between the tables a and b, the tree of height h at p has become t, and no place outside it has changed
pub record Became {C W R : Type 0} (m : Meaning C W R) (a b : List (Node C R)) (h p : ℕ) (t : Tree C W) : Type 0 where
  pub tree : tree_at m b h p ≡ t
  pub frame : (q : ℕ) → uses (tree_at m a h p) q ≡ 0 → slice_get b q ≡ slice_get a q
