-- The tree that a table holds, as a value: each node with its place in the table.
use Rattle.std.specs.Prelude.{ℕ, zero, suc, ◌+◌, cond, List, [], ◌∷◌, ◌++◌, Some, None, Option, ◌==◌}
use Rattle.plain.specs.declared.point.Key.{Key}
use Rattle.plain.specs.declared.point.Point.{Point}

mutual
  -- `gone`: a place that is not in the table; a leaf has its point, a fork the key of its first leaf; each node keeps at most one point
  pub data Tree (C W : Type 0) : Type 0 where
    gone : ℕ → Tree C W
    leaf : ℕ → Point C W → Option (Point C W) → Tree C W
    fork : ℕ → Key C → Option (Point C W) → Forest C W → Tree C W

  -- the children of a fork, from the left
  pub data Forest (C W : Type 0) : Type 0 where
    none : Forest C W
    more : Tree C W → Forest C W → Forest C W

infixr 30 ◌⊕◌
-- one after the other
abbrev pub ◌⊕◌ : {C W : Type 0} → Forest C W → Forest C W → Forest C W
none ⊕ us = us
(more t ts) ⊕ us = more t (ts ⊕ us)

-- the trees at some places
abbrev pub grow : {C W : Type 0} → (ℕ → Tree C W) → List ℕ → Forest C W
grow at [] = none
grow at (p ∷ ps) = more (at p) (grow at ps)

module _ {C W : Type 0} where
  -- the place of the root
  abbrev pub place_of : Tree C W → ℕ
  place_of (gone p) = p
  place_of (leaf p x o) = p
  place_of (fork p k o ts) = p

  -- the places of the roots
  abbrev pub places_of : Forest C W → List ℕ
  places_of none = []
  places_of (more t ts) = place_of t ∷ places_of ts

  -- the key that the root records
  abbrev pub key_of : Tree C W → Option (Key C)
  key_of (gone p) = None
  key_of (leaf p x o) = Some x.key
  key_of (fork p k o ts) = Some k

  -- the point that the root keeps
  abbrev pub kept_by : Tree C W → Option (Point C W)
  kept_by (gone p) = None
  kept_by (leaf p x o) = o
  kept_by (fork p k o ts) = o

  -- how many trees
  abbrev pub count : Forest C W → ℕ
  count none = 0
  count (more t ts) = suc (count ts)

  -- the children of the root
  abbrev pub children_of : Tree C W → Forest C W
  children_of (gone p) = none
  children_of (leaf p x o) = none
  children_of (fork p k o ts) = ts

  -- the i-th tree, counted from 0
  abbrev pub nth_tree : ℕ → Forest C W → Tree C W
  nth_tree i none = gone 0
  nth_tree zero (more t ts) = t
  nth_tree (suc i) (more t ts) = nth_tree i ts

  -- with f of the i-th tree in its place
  abbrev pub alter : ℕ → (Tree C W → Tree C W) → Forest C W → Forest C W
  alter i f none = none
  alter zero f (more t ts) = more (f t) ts
  alter (suc i) f (more t ts) = more t (alter i f ts)

  -- the first i trees, and those after them
  abbrev pub front : ℕ → Forest C W → Forest C W
  front i none = none
  front zero (more t ts) = none
  front (suc i) (more t ts) = more t (front i ts)

  abbrev pub back : ℕ → Forest C W → Forest C W
  back i none = none
  back zero (more t ts) = more t ts
  back (suc i) (more t ts) = back i ts

  abbrev mutual
    -- the points of the leaves, from the left
    pub points : Tree C W → List (Point C W)
    points (gone p) = []
    points (leaf p x o) = x ∷ []
    points (fork p k o ts) = points_all ts

    pub points_all : Forest C W → List (Point C W)
    points_all none = []
    points_all (more t ts) = points t ++ points_all ts

  abbrev mutual
    -- how many nodes there are
    pub size : Tree C W → ℕ
    size (gone p) = 1
    size (leaf p x o) = 1
    size (fork p k o ts) = suc (size_all ts)

    pub size_all : Forest C W → ℕ
    size_all none = 0
    size_all (more t ts) = size t + size_all ts

-- 1 where two places are the same
abbrev pub hit : ℕ → ℕ → ℕ
hit p q = cond (p == q) 1 0

module _ {C W : Type 0} where
  abbrev mutual
    -- how many nodes stand at the place q
    pub uses : Tree C W → ℕ → ℕ
    uses (gone p) q = hit p q
    uses (leaf p x o) q = hit p q
    uses (fork p k o ts) q = hit p q + uses_all ts q

    pub uses_all : Forest C W → ℕ → ℕ
    uses_all none q = 0
    uses_all (more t ts) q = uses t q + uses_all ts q
