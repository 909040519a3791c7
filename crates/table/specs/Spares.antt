-- The free places of a table.
use Rattle.std.specs.Prelude.{ℕ, zero, suc, ◌-◌, List, [], ◌∷◌, ◌++◌, length, Some, None, Option, slice_index}
use Rattle.std.specs.List.{slice_get}
use Rattle.table.specs.declared.node.Node.{Node}
use Rattle.table.specs.declared.free.Free.{Free}

-- the place that a free node names as the next
abbrev pub link_of : {C R : Type 0} → Option (Node C R) → ℕ
link_of None = 0
link_of (Some n) = slice_index n.children.places 0

-- so many places, each named by the one before, from p on
abbrev pub chain : {C R : Type 0} → List (Node C R) → ℕ → ℕ → List ℕ
chain ns zero p = []
chain ns (suc k) p = p ∷ chain ns k (link_of (slice_get ns p))

-- so many places in a row, from p on (the library's range_with_len steps by + 1, and the proofs here by suc)
abbrev pub row : ℕ → ℕ → List ℕ
row zero p = []
row (suc k) p = p ∷ row k (suc p)

-- the free places, in the order in which they are taken: the chained ones, then those never used
abbrev pub spares : {C R : Type 0} → List (Node C R) → Free → List ℕ
spares ns f = chain ns f.chained f.head ++ row (length ns - f.fresh) f.fresh
