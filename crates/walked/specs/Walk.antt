-- The range walk and the frontier walk over a tree: the nodes that they take, and what they list.
use Rattle.std.specs.Prelude.{ℕ, zero, suc, ◌+◌, ◌-◌, ◌*◌, ◌^◌, ◌≤◌, Bool, true, false, cond, not, ◌&&◌, List, [], ◌∷◌, ◌++◌, length, Some, None, Option}
use Rattle.std.specs.Option.{option_to_list}
use Rattle.std.specs.List.{flat_map}
use Rattle.kinds.specs.Meaning.{Meaning}
use Rattle.plain.specs.declared.point.Key.{Key}
use Rattle.plain.specs.declared.point.Point.{Point}
use Rattle.plain.specs.Windows.{later, reaches, window, matches}
use Rattle.trees.specs.Tree.{Tree, Forest, gone, leaf, fork, none, more, key_of, kept_by}

module _ {C W : Type 0} where
  -- the point that a node keeps, as a list
  abbrev pub kept_at : Tree C W → List (Point C W)
  kept_at t = option_to_list (kept_by t)

  -- the point of a leaf, as a list
  abbrev pub point_at : Tree C W → List (Point C W)
  point_at (gone p) = []
  point_at (leaf p x o) = x ∷ []
  point_at (fork p k o ts) = []

  -- in a frontier walk every node leads on
  abbrev pub always : Option (Point C W) → Bool
  always o = true

  -- what f gives at the first tree, if there is one
  abbrev pub from : {Y : Type 0} → (Tree C W → List Y) → Forest C W → List Y
  from f none = []
  from f (more t ts) = f t

-- the steps of a walk until k elements are listed
abbrev pub until : {X Y : Type 0} → (X → List Y) → ℕ → List X → List X
until list k [] = []
until list zero (v ∷ vs) = []
until list (suc k) (v ∷ vs) = v ∷ until list (suc k - length (list v)) vs

module _ {C W R : Type 0} (m : Meaning C W R) where
  -- the key recorded has a coordinate not later than u
  abbrev pub starts_by : C → Option (Key C) → Bool
  starts_by u None = false
  starts_by u (Some k) = not (later m k.at u)

  -- the key recorded has a coordinate not earlier than l
  abbrev pub starts_from : C → Option (Key C) → Bool
  starts_from l None = false
  starts_from l (Some k) = not (later m l k.at)

  -- with these siblings to its right a child reaches l: it is the last, or the next one's key has a coordinate not earlier than l
  abbrev pub reaches_right : C → Forest C W → Bool
  reaches_right l none = true
  reaches_right l (more t ts) = starts_from l (key_of t)

  -- a child, with the siblings to its right, is open to a window from l to u
  abbrev pub opens : C → C → Tree C W → Forest C W → Bool
  opens l u t ts = starts_by u (key_of t) && reaches_right l ts

  -- in a range walk a kept point leads on that is not weaker than the threshold
  abbrev pub leads_on : W → Option (Point C W) → Bool
  leads_on threshold None = false
  leads_on threshold (Some x) = reaches m x.weight threshold

  -- the open children, from the left
  abbrev pub open_of : C → C → Forest C W → List (Tree C W)
  open_of l u none = []
  open_of l u (more t ts) = cond (opens l u t ts) (t ∷ []) [] ++ open_of l u ts

module _ {C W R : Type 0} (m : Meaning C W R) (leads : Option (Point C W) → Bool) (l u : C) where
  abbrev mutual
    -- the nodes of a walk, in its order: the node and, if what it keeps leads on, its open children from the left, each with all that follows from it before the next
    pub walk : Tree C W → List (Tree C W)
    walk (gone p) = gone p ∷ []
    walk (leaf p x o) = leaf p x o ∷ []
    walk (fork p k o ts) = fork p k o ts ∷ cond (leads o) (walk_all ts) []

    pub walk_all : Forest C W → List (Tree C W)
    walk_all none = []
    walk_all (more t ts) = cond (opens m l u t ts) (walk t) [] ++ walk_all ts

  -- the nodes that a node leads to
  abbrev pub next : Tree C W → List (Tree C W)
  next (gone p) = []
  next (leaf p x o) = []
  next (fork p k o ts) = cond (leads o) (open_of m l u ts) []

  -- one step with a stack, whose entry that joined last stands first: that entry is taken, and the nodes that it leads to join from the right
  abbrev pub step : List (Tree C W) → List (Tree C W)
  step [] = []
  step (v ∷ vs) = next v ++ vs

  -- the entries after n steps
  abbrev pub after : ℕ → List (Tree C W) → List (Tree C W)
  after zero vs = vs
  after (suc n) vs = after n (step vs)

  -- the entries that n steps take, or fewer if none are left
  abbrev pub run : ℕ → List (Tree C W) → List (Tree C W)
  run n [] = []
  run zero (v ∷ vs) = []
  run (suc n) (v ∷ vs) = v ∷ run n (step (v ∷ vs))

module _ {C W R : Type 0} (m : Meaning C W R) where
  -- the nodes that the range walk visits
  abbrev pub visits : C → C → W → Tree C W → List (Tree C W)
  visits l u threshold t = walk m (leads_on m threshold) l u t

  -- the points that it lists: of those kept at the nodes visited the ones that match
  abbrev pub ranged : C → C → W → Tree C W → List (Point C W)
  ranged l u threshold t = matches m l u threshold (flat_map kept_at (visits l u threshold t))

  -- the nodes that a frontier walk takes if nothing cuts it off
  abbrev pub taken : C → C → Tree C W → List (Tree C W)
  taken l u t = walk m always l u t

  -- what a frontier walk lists at a node: a leaf's point, if it is in the window
  abbrev pub shown : C → C → Tree C W → List (Point C W)
  shown l u v = window m l u (point_at v)

  -- the nodes that it takes for so many places
  abbrev pub first_taken : C → C → ℕ → Tree C W → List (Tree C W)
  first_taken l u places t = until (shown l u) places (taken l u t)

  -- the points of the leaves in the window, in the order of the nodes taken
  abbrev pub listed : C → C → List (Tree C W) → List (Point C W)
  listed l u vs = flat_map (shown l u) vs

  -- the same of a tree or none
  abbrev pub visits_all : C → C → W → Forest C W → List (Tree C W)
  visits_all l u threshold f = from (visits l u threshold) f

  abbrev pub ranged_all : C → C → W → Forest C W → List (Point C W)
  ranged_all l u threshold f = from (ranged l u threshold) f

  abbrev pub taken_all : C → C → Forest C W → List (Tree C W)
  taken_all l u f = from (taken l u) f

  abbrev pub first_taken_all : C → C → ℕ → Forest C W → List (Tree C W)
  first_taken_all l u places f = from (first_taken l u places) f

-- k is the largest number with 2 ^ k at most n
abbrev pub Log : ℕ → ℕ → Type 0
Log n k = (2 ^ k ≤ n) × ((j : ℕ) → 2 ^ j ≤ n → j ≤ k)

-- the most nodes that a range walk visits for t points, with L the logarithm of the number of points
abbrev pub most_visited : ℕ → ℕ → ℕ
most_visited L t = 8 * L + 4 * t + 1

-- the most that a frontier walk takes
abbrev pub most_taken : ℕ → ℕ → ℕ
most_taken L t = 2 * L + 2 * t + 1
