-- The rules of the tree.
use Rattle.std.specs.Prelude.{◌≡◌, ℕ, zero, suc, ◌≤◌, List, [], ◌∷◌, ◌++◌, None}
use Rattle.std.specs.declared.cmp.Ordering.TheVariants.{Less}
use Rattle.std.specs.List.{Contains, AllByRecursion}
use Rattle.std.specs.List.Sorted.{IsPermutation}
use Rattle.std.specs.Option.{option_to_list}
use Rattle.kinds.specs.Meaning.{Meaning}
use Rattle.plain.specs.declared.point.Key.{Key}
use Rattle.plain.specs.declared.point.Point.{Point}
use Rattle.plain.specs.Points.{rank_order}
use Rattle.plain.specs.Set.{Rising, AllFit}
use Rattle.trees.specs.Tree.{Tree, Forest, gone, leaf, fork, none, more, count, points, points_all}

module _ {C W : Type 0} where
  abbrev mutual
    -- all leaves are h edges below the root
    pub Level : Tree C W → ℕ → Type 0
    Level (gone p) h = ⊥
    Level (leaf p x o) h = h ≡ 0
    Level (fork p k o ts) zero = ⊥
    Level (fork p k o ts) (suc h) = LevelAll ts h

    pub LevelAll : Forest C W → ℕ → Type 0
    LevelAll none h = Unit {0}
    LevelAll (more t ts) h = Level t h × LevelAll ts h

  abbrev mutual
    -- each fork has a to b children
    pub Degrees : Tree C W → ℕ → ℕ → Type 0
    Degrees (gone p) a b = Unit {0}
    Degrees (leaf p x o) a b = Unit {0}
    Degrees (fork p k o ts) a b = (a ≤ count ts) × (count ts ≤ b) × DegreesAll ts a b

    pub DegreesAll : Forest C W → ℕ → ℕ → Type 0
    DegreesAll none a b = Unit {0}
    DegreesAll (more t ts) a b = Degrees t a b × DegreesAll ts a b

  -- the key of the first of some points
  abbrev pub FirstKey : Key C → List (Point C W) → Type 0
  FirstKey k [] = ⊥
  FirstKey k (x ∷ xs) = k ≡ x.key

  abbrev mutual
    -- each fork records the key of its first leaf (the points rise, so it is the smallest)
    pub Keyed : Tree C W → Type 0
    Keyed (gone p) = Unit {0}
    Keyed (leaf p x o) = Unit {0}
    Keyed (fork p k o ts) = FirstKey k (points_all ts) × KeyedAll ts

    pub KeyedAll : Forest C W → Type 0
    KeyedAll none = Unit {0}
    KeyedAll (more t ts) = Keyed t × KeyedAll ts

  abbrev mutual
    -- the points that a tree keeps
    pub kept : Tree C W → List (Point C W)
    kept (gone p) = []
    kept (leaf p x o) = option_to_list o
    kept (fork p k o ts) = option_to_list o ++ kept_all ts

    pub kept_all : Forest C W → List (Point C W)
    kept_all none = []
    kept_all (more t ts) = kept t ++ kept_all ts

  abbrev mutual
    -- each point is kept at a node on the way to its leaf: it is one of the node's own points
    pub OnPath : Tree C W → Type 0
    OnPath (gone p) = Unit {0}
    OnPath (leaf p x o) = AllByRecursion (Contains (x ∷ [])) (option_to_list o)
    OnPath (fork p k o ts) = AllByRecursion (Contains (points_all ts)) (option_to_list o) × OnPathAll ts

    pub OnPathAll : Forest C W → Type 0
    OnPathAll none = Unit {0}
    OnPathAll (more t ts) = OnPath t × OnPathAll ts

  abbrev mutual
    -- below a node that keeps none, no node keeps one
    pub Filled : Tree C W → Type 0
    Filled (gone p) = Unit {0}
    Filled (leaf p x o) = Unit {0}
    Filled (fork p k o ts) = (o ≡ None → kept_all ts ≡ []) × FilledAll ts

    pub FilledAll : Forest C W → Type 0
    FilledAll none = Unit {0}
    FilledAll (more t ts) = Filled t × FilledAll ts

module _ {C W R : Type 0} (m : Meaning C W R) where
  abbrev mutual
    -- a kept point precedes in rank order all points kept below it
    pub Ranked : Tree C W → Type 0
    Ranked (gone p) = Unit {0}
    Ranked (leaf p x o) = Unit {0}
    Ranked (fork p k o ts) = AllByRecursion (λ x. AllByRecursion (λ y. rank_order m x y ≡ Less) (kept_all ts)) (option_to_list o) × RankedAll ts

    pub RankedAll : Forest C W → Type 0
    RankedAll none = Unit {0}
    RankedAll (more t ts) = Ranked t × RankedAll ts

  -- the rules of a tree of height h, with forks of a to b children
  pub record Rules (a b h : ℕ) (t : Tree C W) : Type 0 where
    pub level : Level t h
    pub rising : Rising m (points t)
    pub fit : AllFit m (points t)
    pub degrees : Degrees t a b
    pub keyed : Keyed t
    -- each point is kept exactly once
    pub once : IsPermutation (points t) (kept t)
    pub on_path : OnPath t
    pub filled : Filled t
    pub ranked : Ranked t
