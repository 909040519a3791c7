-- How far a tree has been built.
use Rattle.std.specs.Prelude.{◌≡◌, ℕ, suc, ◌+◌, ◌*◌, ◌^◌, ◌≤◌, List, length}
use Rattle.kinds.specs.Meaning.{Meaning}
use Rattle.plain.specs.declared.point.Key.{Key}
use Rattle.plain.specs.declared.point.Point.{Point}
use Rattle.trees.specs.Tree.{Forest, grow, ◌⊕◌, points_all, size_all, uses_all}
use Rattle.trees.specs.Rules.{LevelAll, DegreesAll, KeyedAll}
use Rattle.built.specs.Build.{parents, levels}
use Rattle.table.specs.declared.header.Header.{Header}
use Rattle.table.specs.declared.node.Node.{Node}
use Rattle.table.specs.Spares.{row}
use Rattle.table.specs.Reading.{tree_at, inside}
use Rattle.build.specs.Leaves.{leaves_at}

-- the header of a tree of n points whose last level is `left` trees of height h, one or none, from the place `first` on
abbrev pub headed : ℕ → ℕ → ℕ → ℕ → Header
headed first left h n = record { top = record { root = first; height = h }; count = n; free = record { head = 0; chained = 0; fresh = first + left } }

module _ {C W R : Type 0} (m : Meaning C W R) (ns : List (Node C R)) where
  -- the trees of height h at n places in a row, from p on
  abbrev pub trees_in : ℕ → ℕ → ℕ → Forest C W
  trees_in h n p = grow (tree_at m ns h) (row n p)

  -- the parents of n trees of height h, which are at the places from p on: at the places after these
  abbrev pub level_over : ℕ → ℕ → ℕ → Key C → Forest C W
  level_over h n p k = parents m n h (p + n) k (trees_in h n p)

  -- the tree over what lies at the first n places, its height, and the next place to be used
  abbrev pub tree_over : ℕ → Key C → Forest C W × ℕ × ℕ
  tree_over n k = levels m n 0 n k (leaves_at m ns n)

  -- of the level `goal`, parents of trees of height h at the places from p on, `made` are laid; `left` trees, from the place `from` on, have none yet
  pub record Laying (h p : ℕ) (goal : Key C → Forest C W) (from left made : ℕ) : Type 0 where
    pub trees : (k : Key C) → trees_in (suc h) made p ⊕ parents m left h (p + made) k (trees_in h left from) ≡ goal k
    pub level : LevelAll (trees_in h left from) h
    pub degrees : DegreesAll (trees_in h left from) 1 4
    -- each node has a place of its own, before the next to be used
    pub apart : (q : ℕ) → uses_all (trees_in (suc h) made p) q + uses_all (trees_in h left from) q ≤ inside (p + made) q
    pub alone : left ≡ 1 → ⊥
    pub onward : from + left ≡ p
    pub room : 2 * (p + made) + left ≤ 2 * length ns

  -- of the tree `goal` over n points, the levels up to the height h are laid: `left` trees of that height, from the place `first` on, are all there is
  pub record Raising (n : ℕ) (xs : List (Point C W)) (goal : Key C → Forest C W × ℕ × ℕ) (first left h : ℕ) : Type 0 where
    pub trees : (k : Key C) → levels m left h (first + left) k (trees_in h left first) ≡ goal k
    pub level : LevelAll (trees_in h left first) h
    pub degrees : DegreesAll (trees_in h left first) 2 4
    pub keyed : KeyedAll (trees_in h left first)
    pub same : points_all (trees_in h left first) ≡ xs
    -- their nodes are at the places before the next to be used
    pub places : (q : ℕ) → uses_all (trees_in h left first) q ≡ inside (first + left) q
    pub nodes : size_all (trees_in h left first) ≡ first + left
    pub room : first + left + left ≤ suc (length ns)
    pub some : 1 ≤ n → 1 ≤ left
    pub most : left ≤ n
    pub low : 2 ^ h * left ≤ n
