-- One node laid as two over the trees at some places.
use Rattle.std.specs.Prelude.{◌≡◌, ℕ, ◌+◌, ◌-◌, ◌<◌, ◌≤◌, List, [], ◌∷◌, ◌++◌, length, take, drop, Option}
use Rattle.std.specs.List.{slice_get}
use Rattle.kinds.specs.Meaning.{Meaning}
use Rattle.plain.specs.declared.point.Key.{Key}
use Rattle.plain.specs.declared.point.Point.{Point}
use Rattle.trees.specs.Tree.{Forest, none, more, grow, hit, uses_all}
use Rattle.trees.specs.Moves.{settled, seated}
use Rattle.table.specs.declared.node.Node.{Node}
use Rattle.table.specs.Reading.{tree_at, inside, Sounds}

-- some places, with q after number i
abbrev pub with_next : ℕ → ℕ → List ℕ → List ℕ
with_next i q ps = take (i + 1) ps ++ (q ∷ drop (i + 1) ps)

module _ {C W R : Type 0} (m : Meaning C W R) where
  -- the trees below a node of height H at the places ps
  abbrev pub under : List (Node C R) → ℕ → List ℕ → Forest C W
  under a H ps = grow (tree_at m a (H - 1)) ps

  -- places p and q, and trees to lay below them, each place for itself
  pub record Apart (a : List (Node C R)) (H p q : ℕ) (ls rs : List ℕ) : Type 0 where
    pub above : 0 < H
    pub left_some : 0 < length ls
    pub left_few : length ls ≤ 4
    pub right_some : 0 < length rs
    pub right_few : length rs ≤ 4
    pub left : Sounds (length a) (H - 1) (under a H ls)
    pub right : Sounds (length a) (H - 1) (under a H rs)
    pub each : (z : ℕ) → hit p z + hit q z + (uses_all (under a H ls) z + uses_all (under a H rs) z) ≤ inside (length a) z

  -- the two nodes over the two parts
  abbrev pub pair_over : List (Node C R) → ℕ → ℕ → ℕ → Key C → List ℕ → List ℕ → Forest C W
  pair_over a H p q k ls rs = more (settled m H p k (under a H ls)) (more (settled m H q k (under a H rs)) none)

  -- both have been laid, and the point o, if any, has found its place below one of them; nothing else has changed
  pub record Split (a b : List (Node C R)) (H p q : ℕ) (ls rs : List ℕ) (o : Option (Point C W)) : Type 0 where
    pub trees : (k : Key C) → grow (tree_at m b H) (p ∷ q ∷ []) ≡ seated m H o (pair_over a H p q k ls rs)
    pub frame : (z : ℕ) → hit p z ≡ 0 → hit q z ≡ 0 → uses_all (under a H ls) z ≡ 0 → uses_all (under a H rs) z ≡ 0 → slice_get b z ≡ slice_get a z
