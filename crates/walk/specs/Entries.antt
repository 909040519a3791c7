-- Entries kept as a stack, and the children that join it.
use Rattle.std.specs.Prelude.{ℕ, ◌+◌, ◌*◌, ◌≤◌, Bool, true, cond, ◌&&◌, List, [], ◌∷◌, ◌++◌, map, reverse, length, take, Option}
use Rattle.std.specs.List.{flat_map, AllByRecursion}
use Rattle.kinds.specs.Meaning.{Meaning}
use Rattle.plain.specs.declared.point.Point.{Point}
use Rattle.trees.specs.Tree.{Tree}
use Rattle.table.specs.declared.node.Node.{Node}
use Rattle.table.specs.Reading.{tree_of, Sound}
use Rattle.tree.specs.Places.{key_at}
use Rattle.walked.specs.Walk.{starts_by, starts_from, walk}
use Rattle.table.specs.declared.subtree.Subtree.{Subtree}

-- the first n entries, the one that joined last first
abbrev pub pile : List Subtree → ℕ → List Subtree
pile es n = reverse (take n es)

-- an entry by its parts
abbrev pub entry : ℕ → ℕ → Subtree
entry p h = record { root = p; height = h }

module _ {C W R : Type 0} (m : Meaning C W R) (ns : List (Node C R)) where
  -- the trees that entries name
  abbrev pub trees_of : List Subtree → List (Tree C W)
  trees_of es = map (tree_of m ns) es

module _ {C W R : Type 0} (m : Meaning C W R) where
  -- with these places to its right, a child reaches l: it is the last, or the key of the next is not earlier
  abbrev pub reaches_at : List (Node C R) → C → List ℕ → Bool
  reaches_at ns l [] = true
  reaches_at ns l (q ∷ qs) = starts_from m l (key_at ns q)

  -- the entries of the children that are open to a window, from the left
  abbrev pub open_entries : List (Node C R) → ℕ → C → C → List ℕ → List Subtree
  open_entries ns h l u [] = []
  open_entries ns h l u (p ∷ ps) = cond (starts_by m u (key_at ns p) && reaches_at ns l ps) (entry p h ∷ []) [] ++ open_entries ns h l u ps

-- a stack of 43 places has room for what follows from each of its entries: so many entries lie below one of height h that 3 h more fit
abbrev pub Rooms : List Subtree → Type 0
Rooms [] = Unit {0}
Rooms (e ∷ es) = (length es + 3 * e.height ≤ 42) × Rooms es

module _ {C W R : Type 0} (m : Meaning C W R) (ns : List (Node C R)) where
  -- each entry names a sound tree
  abbrev pub AllSound : List Subtree → Type 0
  AllSound es = AllByRecursion (λ e. Sound (length ns) e.height (tree_of m ns e)) es

  -- the nodes that are still to come in a walk with these entries left
  abbrev pub to_come : (Option (Point C W) → Bool) → C → C → List Subtree → List (Tree C W)
  to_come leads l u es = flat_map (walk m leads l u) (trees_of m ns es)
