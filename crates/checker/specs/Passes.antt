-- What is tested at each node of a tree: all of it together is the rules.
use Rattle.std.specs.Prelude.{◌≡◌, ℕ, zero, suc, ◌≤◌, List, [], ◌∷◌, Some, None, Option}
use Rattle.std.specs.declared.cmp.Ordering.TheVariants.{Less}
use Rattle.std.specs.List.{Contains, AllByRecursion}
use Rattle.std.specs.Option.{option_to_list}
use Rattle.kinds.specs.Meaning.{Meaning}
use Rattle.plain.specs.declared.point.Key.{Key}
use Rattle.plain.specs.declared.point.Point.{Point}
use Rattle.plain.specs.Points.{rank_order, Before, FitPoint}
use Rattle.trees.specs.Tree.{Tree, Forest, gone, leaf, fork, none, more, count, key_of, kept_by, points_all}
use Rattle.table.specs.declared.node.Node.{Node}
use Rattle.table.specs.Reading.{kept_in}
use Rattle.tree.specs.Places.{key_at}

module _ {C W : Type 0} where
  -- the key that the first of some trees records, or else the key given for the end
  abbrev pub next_key : Forest C W → Option (Key C) → Option (Key C)
  next_key none u = u
  next_key (more t ts) u = key_of t

  -- the first of some trees records the key
  abbrev pub Heads : Key C → Forest C W → Type 0
  Heads k none = ⊥
  Heads k (more t ts) = key_of t ≡ Some k

-- the same key by places in a table
abbrev pub next_at : {C R : Type 0} → List (Node C R) → List ℕ → Option (Key C) → Option (Key C)
next_at ns [] u = u
next_at ns (p ∷ ps) u = key_at ns p

module _ {C W R : Type 0} (m : Meaning C W R) where
  -- the key is before the end, if there is one
  abbrev pub Under : Option (Key C) → Key C → Type 0
  Under None k = Unit {0}
  Under (Some u) k = Before m k u

  -- the point may be kept below a node that keeps o: it comes after o in rank
  abbrev pub After : Option (Point C W) → Point C W → Type 0
  After None y = ⊥
  After (Some x) y = rank_order m x y ≡ Less

  -- what a node keeps, if anything, comes after what the node above it keeps, if there is one above
  abbrev pub Follows : Option (Option (Point C W)) → Option (Point C W) → Type 0
  Follows None q = Unit {0}
  Follows (Some o) q = AllByRecursion (After o) (option_to_list q)

  -- what the node above keeps, if there is one above
  abbrev pub kept_over : Option (Node C R) → Option (Option (Point C W))
  kept_over None = None
  kept_over (Some n) = Some (kept_in m n)

  -- what is tested at a leaf: its point is fit and before the end, and it keeps no other
  abbrev pub LeafPasses : Point C W → Option (Point C W) → Option (Key C) → Type 0
  LeafPasses x o u = FitPoint m x × Under u x.key × AllByRecursion (Contains (x ∷ [])) (option_to_list o)

  -- what is tested at a fork: 2 to 4 children, of which the first has its key, and it keeps one of their points if any
  abbrev pub ForkPasses : Key C → Option (Point C W) → Forest C W → Type 0
  ForkPasses k o ts = (2 ≤ count ts) × (count ts ≤ 4) × Heads k ts × AllByRecursion (Contains (points_all ts)) (option_to_list o)

  abbrev mutual
    -- a tree of height h passes, whose keys end before u
    pub Passes : Tree C W → Option (Key C) → ℕ → Type 0
    Passes (gone p) u h = ⊥
    Passes (leaf p x o) u h = (h ≡ 0) × LeafPasses x o u
    Passes (fork p k o ts) u zero = ⊥
    Passes (fork p k o ts) u (suc h) = ForkPasses k o ts × PassesAll ts (Some o) u h

    -- some trees of height h pass, below a node that keeps a, if there is one
    pub PassesAll : Forest C W → Option (Option (Point C W)) → Option (Key C) → ℕ → Type 0
    PassesAll none a u h = Unit {0}
    PassesAll (more t ts) a u h = Follows a (kept_by t) × Passes t (next_key ts u) h × PassesAll ts a u h
