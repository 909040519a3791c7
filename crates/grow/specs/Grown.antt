-- A leaf more in the tree at a place.
use Rattle.std.specs.Prelude.{◌≡◌, ℕ, suc, ◌+◌, ◌≤◌, List, ◌∷◌, length, Option}
use Rattle.std.specs.List.{slice_get}
use Rattle.std.specs.Option.{option_to_list}
use Rattle.kinds.specs.Meaning.{Meaning}
use Rattle.plain.specs.declared.point.Point.{Point}
use Rattle.refusals.specs.Limits.{most_nodes}
use Rattle.trees.specs.Tree.{grow, uses, uses_all}
use Rattle.trees.specs.Rules.{Level, Degrees, Keyed}
use Rattle.trees.specs.Moves.{inserted}
use Rattle.shapes.specs.Shape.{occurs, full}
use Rattle.table.specs.declared.node.Node.{Node}
use Rattle.table.specs.declared.free.Free.{Free}
use Rattle.table.specs.Spares.{spares}
use Rattle.table.specs.Reading.{tree_at, inside}

-- the most children of a node, and how many stay on the left where it is split
abbrev pub most : ℕ
most = 4

abbrev pub half : ℕ
half = 3

module _ {C W R : Type 0} (m : Meaning C W R) where
  -- a tree of height h that can take one leaf more: each place of it and each free place stands for itself, and there are free places for every split
  pub record Ready (a : List (Node C R)) (f : Free) (h p : ℕ) : Type 0 where
    pub small : length a ≤ most_nodes
    pub level : Level (tree_at m a h p) h
    pub degrees : Degrees (tree_at m a h p) 2 most
    pub keyed : Keyed (tree_at m a h p)
    pub apart : (q : ℕ) → uses (tree_at m a h p) q + occurs q (spares a f) ≤ inside (length a) q
    pub room : suc (full (tree_at m a h p) most) ≤ length (spares a f)

  -- the tree at p has become the trees at p and, where it was split, at o, by one leaf more for x; with the free places and all other nodes
  pub record Inserted (a b : List (Node C R)) (f g : Free) (h p : ℕ) (x : Point C W) (o : Option ℕ) : Type 0 where
    pub trees : grow (tree_at m b h) (p ∷ option_to_list o) ≡ (inserted m most half h x (spares a f) (tree_at m a h p)).0
    pub spare : spares b g ≡ (inserted m most half h x (spares a f) (tree_at m a h p)).1
    pub frame : (q : ℕ) → uses (tree_at m a h p) q ≡ 0 → uses_all (inserted m most half h x (spares a f) (tree_at m a h p)).0 q ≡ 0 → slice_get b q ≡ slice_get a q
