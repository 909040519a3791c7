-- A node with other children, a node mended, and a tree without one leaf: in a table.
use Rattle.std.specs.Prelude.{◌≡◌, ℕ, suc, ◌+◌, ◌<◌, ◌≤◌, List, length, Some}
use Rattle.std.specs.List.{slice_get}
use Rattle.kinds.specs.Meaning.{Meaning}
use Rattle.plain.specs.declared.point.Key.{Key}
use Rattle.trees.specs.Tree.{Forest, fork, grow, hit, uses, uses_all, size}
use Rattle.trees.specs.Rules.{Level, Degrees, Keyed}
use Rattle.trees.specs.Moves.{first_key, mended, removed}
use Rattle.shapes.specs.Shape.{occurs}
use Rattle.table.specs.declared.node.Node.{Node}
use Rattle.table.specs.declared.free.Free.{Free}
use Rattle.table.specs.Kids.{kids_of}
use Rattle.table.specs.Spares.{spares}
use Rattle.table.specs.Reading.{kept_in, tree_at, inside, Sounds}
use Rattle.table.specs.Keys.{key_in}

module _ {C W R : Type 0} (m : Meaning C W R) where
  -- the node n stands at p over the trees at some places, with the key of the first
  pub record Renewed (a b : List (Node C R)) (p : ℕ) (n : Node C R) (ps : List ℕ) : Type 0 where
    pub tree : (h : ℕ) (k : Key C) → uses_all (grow (tree_at m a h) ps) p ≡ 0 → tree_at m b (suc h) p ≡ fork p (first_key k (grow (tree_at m a h) ps)) (kept_in m n) (grow (tree_at m a h) ps)
    pub frame : (q : ℕ) → hit p q ≡ 0 → slice_get b q ≡ slice_get a q

  -- the trees below a node
  abbrev pub under : List (Node C R) → ℕ → Node C R → Forest C W
  under a h n = grow (tree_at m a h) (kids_of n.children)

  -- the node n at p, over at least two trees of height h, of which number i may have too few children
  pub record Mendable (a : List (Node C R)) (f : Free) (p : ℕ) (n : Node C R) (h i : ℕ) : Type 0 where
    pub is : slice_get a p ≡ Some n
    pub above : 0 < h
    pub index : i < length (kids_of n.children)
    pub two : 2 ≤ length (kids_of n.children)
    pub sounds : Sounds (length a) h (under a h n)
    pub apart : (q : ℕ) → hit p q + uses_all (under a h n) q + occurs q (spares a f) ≤ inside (length a) q
    pub room : length (spares a f) < 65535

  -- it is mended, and nothing outside it has changed
  pub record Mended (a b : List (Node C R)) (f g : Free) (p : ℕ) (n : Node C R) (h i : ℕ) : Type 0 where
    pub tree : tree_at m b (suc h) p ≡ (mended m 2 4 h p (key_in n.own) (kept_in m n) i (under a h n) (spares a f)).0
    pub spares : spares b g ≡ (mended m 2 4 h p (key_in n.own) (kept_in m n) i (under a h n) (spares a f)).1
    pub frame : (q : ℕ) → hit p q ≡ 0 → uses_all (under a h n) q ≡ 0 → slice_get b q ≡ slice_get a q

  -- the tree of height h at p can lose a leaf: its forks have 2 to 4 children and the keys of their first leaves, and each place is used or free at most once
  pub record Ready (a : List (Node C R)) (f : Free) (h p : ℕ) : Type 0 where
    pub above : 0 < h
    pub level : Level (tree_at m a h p) h
    pub degrees : Degrees (tree_at m a h p) 2 4
    pub keyed : Keyed (tree_at m a h p)
    pub apart : (q : ℕ) → uses (tree_at m a h p) q + occurs q (spares a f) ≤ inside (length a) q
    pub room : size (tree_at m a h p) + length (spares a f) ≤ 65535

  -- the leaf on the way to a key is gone, and nothing outside the tree has changed
  pub record Removed (a b : List (Node C R)) (f g : Free) (h p : ℕ) (k : Key C) : Type 0 where
    pub tree : tree_at m b h p ≡ (removed m 2 4 h k (spares a f) (tree_at m a h p)).0
    pub spares : spares b g ≡ (removed m 2 4 h k (spares a f) (tree_at m a h p)).1
    pub frame : (q : ℕ) → uses (tree_at m a h p) q ≡ 0 → slice_get b q ≡ slice_get a q
