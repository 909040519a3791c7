-- A root that may have one child left: in a table.
use Rattle.std.specs.Prelude.{◌≡◌, ℕ, ◌+◌, ◌<◌, ◌≤◌, List, length}
use Rattle.kinds.specs.Meaning.{Meaning}
use Rattle.trees.specs.Tree.{none, more, uses}
use Rattle.trees.specs.Moves.{lowered}
use Rattle.shapes.specs.Shape.{occurs}
use Rattle.table.specs.declared.node.Node.{Node}
use Rattle.table.specs.declared.free.Free.{Free}
use Rattle.table.specs.Spares.{spares}
use Rattle.table.specs.Reading.{tree_at, inside, Sound}

module _ {C W R : Type 0} (m : Meaning C W R) where
  -- a tree above leaves, none of whose places is free
  pub record Lowerable (a : List (Node C R)) (f : Free) (h p : ℕ) : Type 0 where
    pub above : 0 < h
    pub sound : Sound (length a) h (tree_at m a h p)
    pub apart : (q : ℕ) → uses (tree_at m a h p) q + occurs q (spares a f) ≤ inside (length a) q
    pub room : length (spares a f) < 65535

  -- a root with one child has gone: the tree stands at r with the height i
  pub record Lowered (a b : List (Node C R)) (f g : Free) (h p i r : ℕ) : Type 0 where
    pub forest : more (tree_at m b i r) none ≡ (lowered m h (tree_at m a h p) (spares a f)).0
    pub height : i ≡ (lowered m h (tree_at m a h p) (spares a f)).1
    pub spares : spares b g ≡ (lowered m h (tree_at m a h p) (spares a f)).2
