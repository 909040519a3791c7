-- What is known of a table that passes.
use Rattle.std.specs.Prelude.{◌≡◌, List, length, ◌≢◌}
use Rattle.kinds.specs.Meaning.{Meaning}
use Rattle.trees.specs.Rules.{Rules}
use Rattle.table.specs.declared.node.Node.{Node}
use Rattle.table.specs.declared.header.Header.{Header}
use Rattle.table.specs.Reading.{tree_at}
use Rattle.tree.specs.Standing.{points_of, Ruled}

-- the tree that the header names, if there are points, keeps all the rules, and the header counts its points
pub record Checked {C W R : Type 0} (m : Meaning C W R) (ns : List (Node C R)) (hd : Header) : Type 0 where
  pub rules : (hd.count ≢ 0) → Rules m 2 4 hd.top.height (tree_at m ns hd.top.height hd.top.root)
  pub ruled : Ruled m ns hd
  pub counted : hd.count ≡ length (points_of m ns hd)
