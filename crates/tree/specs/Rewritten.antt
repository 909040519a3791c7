-- A node written again over other children.
use Rattle.std.specs.Prelude.{◌≡◌, ℕ, List, Some, slice_index, slice_set}
use Rattle.std.specs.List.{slice_get}
use Rattle.table.specs.declared.children.Children.{Children}
use Rattle.table.specs.declared.node.Node.{Node}
use Rattle.table.specs.Kids.{kids_of}
use Rattle.table.specs.Nodes.{over}

-- the node at p is n over some children, with the key of the first of them; nothing else has changed
pub record Rewritten {C R : Type 0} (a b : List (Node C R)) (p : ℕ) (n : Node C R) (c : Children) : Type 0 where
  pub first : Node C R
  pub is : slice_get a (slice_index (kids_of c) 0) ≡ Some first
  pub after : b ≡ slice_set a p (over n first.own c)
