-- A tree built over leaves in key order: parents over the trees of one height, from the left, and level upon level until one tree is left.
use Rattle.std.specs.Prelude.{◌≡◌, ℕ, zero, suc, ◌+◌, ◌-◌, ◌*◌, ◌^◌, ◌≤◌, cond, List, [], ◌∷◌, length, Some, ◌==◌, nat_le}
use Rattle.kinds.specs.Meaning.{Meaning}
use Rattle.plain.specs.declared.point.Key.{Key}
use Rattle.plain.specs.declared.point.Point.{Point}
use Rattle.trees.specs.Tree.{Tree, Forest, leaf, none, more, count, front, back, points, points_all, size, size_all, uses, uses_all, hit}
use Rattle.trees.specs.Rules.{Level, LevelAll, Degrees, DegreesAll, Keyed, KeyedAll}
use Rattle.trees.specs.Heap.{total, tally_all, HeapAll, SortedAll}
use Rattle.trees.specs.Moves.{settled}

-- how often a place stands in a list of places
abbrev pub occurs : ℕ → List ℕ → ℕ
occurs q [] = 0
occurs q (p ∷ ps) = hit p q + occurs q ps

-- so many places in a row, from p on (the library's range_with_len steps by + 1, and the proofs here by suc)
abbrev pub row : ℕ → ℕ → List ℕ
row zero p = []
row (suc n) p = p ∷ row n (suc p)

-- how many of r trees the next parent takes: all of them up to 4, of 5 three, of more four, so that never one is left alone
abbrev pub group : ℕ → ℕ
group r = cond (nat_le r 4) r (cond (r == 5) 3 4)

-- a leaf for each point, which keeps it, at the places from p on
abbrev pub leaves_from : {C W : Type 0} → ℕ → List (Point C W) → Forest C W
leaves_from p [] = none
leaves_from p (x ∷ xs) = more (leaf p x (Some x)) (leaves_from (suc p) xs)

module _ {C W R : Type 0} (m : Meaning C W R) where
  -- forks over trees of height h, from the left, at the places from p on; at most n of them
  abbrev pub parents : ℕ → ℕ → ℕ → Key C → Forest C W → Forest C W
  parents zero h p k ts = none
  parents (suc n) h p k none = none
  parents (suc n) h p k (more t ts) =
      let g = group (count (more t ts)) in
      more (settled m (suc h) p k (front g (more t ts))) (parents n h (suc p) k (back g (more t ts)))

  -- level upon level over trees of height h, at most n of them, until one tree is left or none; with its height and the next place never used
  abbrev pub levels : ℕ → ℕ → ℕ → Key C → Forest C W → Forest C W × ℕ × ℕ
  levels zero h p k ts = (ts, h, p)
  levels (suc n) h p k ts =
      cond (nat_le (count ts) 1)
      (ts, h, p)
      (let us = parents (count ts) h p k ts in levels n (suc h) (p + count us) k us)

module _ {C W : Type 0} where
  -- t is a parent at p over the trees ts of height h
  pub record Over (h p : ℕ) (ts : Forest C W) (t : Tree C W) : Type 0 where
    pub level : Level t (suc h)
    pub degrees : Degrees t 2 4
    pub keyed : Keyed t
    pub same : points t ≡ points_all ts
    pub places : (q : ℕ) → uses t q ≡ hit p q + uses_all ts q
    pub nodes : size t ≡ suc (size_all ts)

  -- us are parents at the places from p on over the trees ts of height h
  pub record Laid (h p : ℕ) (ts us : Forest C W) : Type 0 where
    pub level : LevelAll us (suc h)
    pub degrees : DegreesAll us 2 4
    pub keyed : KeyedAll us
    pub same : points_all us ≡ points_all ts
    -- at most half as many, and where there is a tree there is a parent
    pub halved : 2 * count us ≤ count ts
    pub some : 1 ≤ count ts → 1 ≤ count us
    -- a place more for each parent
    pub places : (q : ℕ) → uses_all us q ≡ uses_all ts q + occurs q (row (count us) p)
    pub nodes : size_all us ≡ size_all ts + count us

  -- us, of height i, is what is built over the trees ts of height h at the places from p on, up to e
  pub record Built (h p : ℕ) (ts us : Forest C W) (i e : ℕ) : Type 0 where
    -- one tree, or none
    pub one : count us ≤ 1
    pub some : 1 ≤ count ts → 1 ≤ count us
    pub level : LevelAll us i
    pub degrees : DegreesAll us 2 4
    pub keyed : KeyedAll us
    pub same : points_all us ≡ points_all ts
    -- a place more for each fork
    pub onward : p ≤ e
    pub places : (q : ℕ) → uses_all us q ≡ uses_all ts q + occurs q (row (e - p) p)
    pub nodes : size_all us ≡ size_all ts + (e - p)
    -- fewer forks than trees
    pub few : 1 ≤ count ts → e - p ≤ count ts - 1
    -- each level halves the number of trees
    pub low : 1 ≤ count ts → 2 ^ i ≤ 2 ^ h * count ts

module _ {C W R : Type 0} (m : Meaning C W R) where
  -- the trees us keep what the trees ts kept, as they should
  pub record Carried (ts us : Forest C W) : Type 0 where
    pub heap : HeapAll m us
    pub tallied : (f : Point C W → ℕ) → tally_all us f ≡ tally_all ts f

  -- us, of height i, is what is built over the leaves ts at the places from p on, up to e: a tree that keeps every point, or none
  pub record Raised (p : ℕ) (ts us : Forest C W) (i e : ℕ) : Type 0 where
    pub built : Built 0 p ts us i e
    pub heap : HeapAll m us
    pub full : (f : Point C W → ℕ) → tally_all us f ≡ total f (points_all us)
    pub low : 1 ≤ count ts → 2 ^ i ≤ length (points_all ts)

  -- us, of height i, is the tree over the points xs, in the places from p on, up to e: leaves first, then forks, level upon level
  pub record Grown (p : ℕ) (xs : List (Point C W)) (us : Forest C W) (i e : ℕ) : Type 0 where
    -- one tree, or none
    pub one : count us ≤ 1
    pub some : 1 ≤ length xs → 1 ≤ count us
    pub sorted : SortedAll m i us
    pub degrees : DegreesAll us 2 4
    pub same : points_all us ≡ xs
    pub heap : HeapAll m us
    pub full : (f : Point C W → ℕ) → tally_all us f ≡ total f (points_all us)
    -- each place stands once
    pub onward : p + length xs ≤ e
    pub places : (q : ℕ) → uses_all us q ≡ occurs q (row (e - p) p)
    pub nodes : size_all us ≡ e - p
    -- n points stand on at most 2 n - 1 nodes
    pub few : 1 ≤ length xs → e - p ≤ 2 * length xs - 1
    pub low : 1 ≤ length xs → 2 ^ i ≤ length xs
