-- Which child to go to, by the places of the children in a table.
use Rattle.std.specs.Prelude.{ℕ, suc, cond, List, [], ◌∷◌, Some, None, Option}
use Rattle.std.specs.List.{slice_get}
use Rattle.kinds.specs.Meaning.{Meaning}
use Rattle.plain.specs.declared.point.Key.{Key}
use Rattle.plain.specs.declared.point.Point.{Point}
use Rattle.trees.specs.Kept.{is_before, leads}
use Rattle.table.specs.declared.node.Node.{Node}
use Rattle.table.specs.Reading.{kept_in}
use Rattle.table.specs.Keys.{key_in}

-- the key that the node at a place records
abbrev pub key_of_node : {C R : Type 0} → Option (Node C R) → Option (Key C)
key_of_node None = None
key_of_node (Some n) = Some (key_in n.own)

abbrev pub key_at : {C R : Type 0} → List (Node C R) → ℕ → Option (Key C)
key_at ns p = key_of_node (slice_get ns p)

module _ {C W R : Type 0} (m : Meaning C W R) where
  -- the point that the node at a place keeps
  abbrev pub kept_of_node : Option (Node C R) → Option (Point C W)
  kept_of_node None = None
  kept_of_node (Some n) = kept_in m n

  abbrev pub kept_at : List (Node C R) → ℕ → Option (Point C W)
  kept_at ns p = kept_of_node (slice_get ns p)

  -- how many places in a row have keys that k is not before
  abbrev pub run_at : List (Node C R) → Key C → List ℕ → ℕ
  run_at ns k [] = 0
  run_at ns k (p ∷ ps) = cond (is_before m k (key_at ns p)) 0 (suc (run_at ns k ps))

  -- the child on the way to a key
  abbrev pub pick_at : List (Node C R) → Key C → List ℕ → ℕ
  pick_at ns k [] = 0
  pick_at ns k (p ∷ ps) = run_at ns k ps

  -- the best so far, number b, keeps o; the places come at the numbers from i on
  abbrev pub best_from_at : List (Node C R) → ℕ → Option (Point C W) → ℕ → List ℕ → ℕ
  best_from_at ns b o i [] = b
  best_from_at ns b o i (p ∷ ps) = cond (leads m (kept_at ns p) o) (best_from_at ns i (kept_at ns p) (suc i) ps) (best_from_at ns b o (suc i) ps)

  -- the child that keeps the first point in rank order
  abbrev pub best_at : List (Node C R) → List ℕ → ℕ
  best_at ns [] = 0
  best_at ns (p ∷ ps) = best_from_at ns 0 (kept_at ns p) 1 ps
