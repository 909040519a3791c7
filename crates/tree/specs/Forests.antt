-- What becomes of some trees side by side in a table.
use Rattle.std.specs.Prelude.{◌≡◌, ℕ, ◌-◌, List, Option}
use Rattle.std.specs.List.{slice_get}
use Rattle.kinds.specs.Meaning.{Meaning}
use Rattle.plain.specs.declared.point.Key.{Key}
use Rattle.plain.specs.declared.point.Point.{Point}
use Rattle.trees.specs.Tree.{grow, hit, uses_all}
use Rattle.trees.specs.Moves.{settled, seated}
use Rattle.table.specs.declared.node.Node.{Node}
use Rattle.table.specs.Reading.{tree_at}

module _ {C W R : Type 0} (m : Meaning C W R) (a b : List (Node C R)) where
  -- a node of height h has been laid at p over the trees at some places, and nothing else has changed (the key k does not matter)
  pub record Laid (h p : ℕ) (ps : List ℕ) : Type 0 where
    pub tree : (k : Key C) → tree_at m b h p ≡ settled m h p k (grow (tree_at m a (h - 1)) ps)
    pub frame : (q : ℕ) → hit p q ≡ 0 → uses_all (grow (tree_at m a (h - 1)) ps) q ≡ 0 → slice_get b q ≡ slice_get a q

  -- a point, if any, has joined those kept in the trees of height h at some places, and nothing else has changed
  pub record Seated (h : ℕ) (ps : List ℕ) (o : Option (Point C W)) : Type 0 where
    pub trees : grow (tree_at m b h) ps ≡ seated m h o (grow (tree_at m a h) ps)
    pub frame : (q : ℕ) → uses_all (grow (tree_at m a h) ps) q ≡ 0 → slice_get b q ≡ slice_get a q
