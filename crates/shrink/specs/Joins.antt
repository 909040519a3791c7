-- Two neighbours in a table, and what becomes of them.
use Rattle.std.specs.Prelude.{◌≡◌, ℕ, ◌+◌, ◌-◌, ◌<◌, ◌≤◌, Bool, true, false, cond, List, [], ◌∷◌, length, Option}
use Rattle.std.specs.List.{slice_get}
use Rattle.kinds.specs.Meaning.{Meaning}
use Rattle.plain.specs.declared.point.Key.{Key}
use Rattle.plain.specs.declared.point.Point.{Point}
use Rattle.trees.specs.Tree.{Forest, none, more, ◌⊕◌, grow, count, children_of, kept_by, uses, uses_all}
use Rattle.trees.specs.Moves.{settled, seated, joined}
use Rattle.shapes.specs.Shape.{occurs}
use Rattle.table.specs.declared.node.Node.{Node}
use Rattle.table.specs.declared.free.Free.{Free}
use Rattle.table.specs.Spares.{spares}
use Rattle.table.specs.Reading.{tree_at, inside, Sounds}

-- two points, each if there is one, have joined those kept in the trees of height h at some places, one after the other, and nothing else has changed
pub record SeatedBoth {C W R : Type 0} (m : Meaning C W R) (a b : List (Node C R)) (h : ℕ) (ps : List ℕ) (o o' : Option (Point C W)) : Type 0 where
  pub trees : grow (tree_at m b h) ps ≡ seated m h o' (seated m h o (grow (tree_at m a h) ps))
  pub frame : (q : ℕ) → uses_all (grow (tree_at m a h) ps) q ≡ 0 → slice_get b q ≡ slice_get a q

module _ {C W R : Type 0} (m : Meaning C W R) (a : List (Node C R)) where
  -- two trees of height h, at l and r
  pub record Neighbours (h l r : ℕ) : Type 0 where
    pub above : 0 < h
    pub sounds : Sounds (length a) h (grow (tree_at m a h) (l ∷ r ∷ []))

  -- the left one, or else the right one, has one child
  pub record Poor (h l r : ℕ) (left : Bool) : Type 0 where
    pub first : left ≡ true → count (children_of (tree_at m a h l)) ≡ 1
    pub last : left ≡ false → count (children_of (tree_at m a h r)) ≡ 1

  -- no free place is used by the trees at some places, none is free twice, and one more can be free
  pub record Spared (f : Free) (h : ℕ) (ps : List ℕ) : Type 0 where
    pub apart : (q : ℕ) → uses_all (grow (tree_at m a h) ps) q + occurs q (spares a f) ≤ inside (length a) q
    pub room : length (spares a f) < 65535

  -- the points kept at l and r join those kept in some trees
  abbrev pub reseated : ℕ → ℕ → ℕ → Forest C W → Forest C W
  reseated h l r ts = seated m h (kept_by (tree_at m a h r)) (seated m h (kept_by (tree_at m a h l)) ts)

module _ {C W R : Type 0} (m : Meaning C W R) (a b : List (Node C R)) (h l r : ℕ) where
  -- no place outside the two trees has changed, and what stands at the places ps has only places of theirs
  pub record Framed (ps : List ℕ) : Type 0 where
    pub frame : (q : ℕ) → uses (tree_at m a h l) q ≡ 0 → uses (tree_at m a h r) q ≡ 0 → slice_get b q ≡ slice_get a q
    pub within : (q : ℕ) → uses_all (grow (tree_at m b h) ps) q ≤ uses (tree_at m a h l) q + uses (tree_at m a h r) q

  -- they are one tree, and the place r is free
  pub record Fused (f g : Free) : Type 0 where
    pub tree : (k : Key C) → grow (tree_at m b h) (l ∷ []) ≡ reseated m a h l r (more (settled m h l k (children_of (tree_at m a h l) ⊕ children_of (tree_at m a h r))) none)
    pub spares : spares b g ≡ r ∷ spares a f
    pub framed : Framed (l ∷ [])

  -- they have the children at the places xs and ys
  pub record Shared (xs ys : List ℕ) : Type 0 where
    pub trees : (k : Key C) → grow (tree_at m b h) (l ∷ r ∷ []) ≡ reseated m a h l r (more (settled m h l k (grow (tree_at m a (h - 1)) xs)) (more (settled m h r k (grow (tree_at m a (h - 1)) ys)) none))
    pub framed : Framed (l ∷ r ∷ [])

  -- they are joined: one tree, or two
  pub record Joint (f g : Free) (left one : Bool) : Type 0 where
    pub trees : (k : Key C) → grow (tree_at m b h) (cond one (l ∷ []) (l ∷ r ∷ [])) ≡ (joined m 4 h k left (tree_at m a h l) (tree_at m a h r) (spares a f)).0
    pub freed : (q : ℕ) → occurs q (spares b g) ≤ uses (tree_at m a h r) q + occurs q (spares a f)
    pub spares : (k : Key C) → spares b g ≡ (joined m 4 h k left (tree_at m a h l) (tree_at m a h r) (spares a f)).1
    pub framed : Framed (cond one (l ∷ []) (l ∷ r ∷ []))
