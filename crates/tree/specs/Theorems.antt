-- What is known of every tree that stands in a table.
use Rattle.std.specs.Prelude.{◌+◌, ◌*◌, ◌^◌, ◌<◌, ◌≤◌, List}
use Rattle.kinds.specs.Meaning.{Meaning}
use Rattle.trees.specs.Tree.{size_all}
use Rattle.trees.specs.Rules.{Rules}
use Rattle.table.specs.declared.node.Node.{Node}
use Rattle.table.specs.declared.header.Header.{Header}
use Rattle.table.specs.Reading.{tree_at}
use Rattle.tree.specs.Standing.{forest_of, Standing, Ruled}

module _ {C W R : Type 0} (m : Meaning C W R) where
  -- n points stand on at most 2n - 1 nodes, and a tree of height h has at least 2 to the h points
  abbrev pub FewNodes : Type 0
  FewNodes = (ns : List (Node C R)) (hd : Header) → Standing m ns hd → 0 < hd.count → (size_all (forest_of m ns hd) + 1 ≤ 2 * hd.count) × (2 ^ hd.top.height ≤ hd.count)

  -- a tree that is ruled keeps every rule of the tree, with forks of 2 to 4 children; and a tree that keeps them is ruled
  pub record RulesHold : Type 0 where
    pub ruled_rules : (ns : List (Node C R)) (hd : Header) → 0 < hd.count → Ruled m ns hd → Rules m 2 4 hd.top.height (tree_at m ns hd.top.height hd.top.root)
    pub rules_ruled : (ns : List (Node C R)) (hd : Header) → 0 < hd.count → Rules m 2 4 hd.top.height (tree_at m ns hd.top.height hd.top.root) → Ruled m ns hd
