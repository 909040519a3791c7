-- Where kept points go: the child on the way to a key, the child that keeps the first point in rank, and how points move down and up.
use Rattle.std.specs.Prelude.{ℕ, zero, suc, Bool, true, false, cond, is_some, Some, None, Option}
use Rattle.std.specs.Ordering.{is_lt, is_eq}
use Rattle.kinds.specs.Meaning.{Meaning}
use Rattle.plain.specs.declared.point.Key.{Key}
use Rattle.plain.specs.declared.point.Point.{Point}
use Rattle.plain.specs.Points.{key_order, rank_order}
use Rattle.trees.specs.Tree.{Tree, Forest, gone, leaf, fork, none, more, key_of, kept_by, nth_tree, alter}

module _ {C W R : Type 0} (m : Meaning C W R) where
  -- the key k is before the key recorded
  abbrev pub is_before : Key C → Option (Key C) → Bool
  is_before k None = false
  is_before k (Some j) = is_lt (key_order m k j)

  -- how many trees in a row have keys that k is not before
  abbrev pub run : Key C → Forest C W → ℕ
  run k none = 0
  run k (more t ts) = cond (is_before k (key_of t)) 0 (suc (run k ts))

  -- the child on the way to a key: the last whose key is not after it, or else the first
  abbrev pub pick : Key C → Forest C W → ℕ
  pick k none = 0
  pick k (more t ts) = run k ts

  -- the first of two kept points leads: the other is none, or comes after it in rank
  abbrev pub leads : Option (Point C W) → Option (Point C W) → Bool
  leads None o = false
  leads (Some x) None = true
  leads (Some x) (Some y) = is_lt (rank_order m x y)

  -- the best so far, number b, keeps o; the trees come at the numbers from i on
  abbrev pub best_from : ℕ → Option (Point C W) → ℕ → Forest C W → ℕ
  best_from b o i none = b
  best_from b o i (more t ts) = cond (leads (kept_by t) o) (best_from i (kept_by t) (suc i) ts) (best_from b o (suc i) ts)

  -- the child that keeps the first point in rank order
  abbrev pub best : Forest C W → ℕ
  best none = 0
  best (more t ts) = best_from 0 (kept_by t) 1 ts

  -- the point kept at the root of a tree of height h goes; of those kept at its children the first in rank moves up, and so on below
  abbrev pub pull : ℕ → Tree C W → Tree C W
  pull h (gone p) = gone p
  pull h (leaf p x o) = leaf p x None
  pull zero (fork p k o ts) = fork p k o ts
  pull (suc h) (fork p k o ts) = let i = best ts in let top = kept_by (nth_tree i ts) in fork p k top (cond (is_some top) (alter i (pull h) ts) ts)

  -- x joins the points kept in a tree of height h: at the first node that keeps none, else it or the point kept there, whichever comes after in rank, goes on towards its leaf
  abbrev pub push : ℕ → Point C W → Tree C W → Tree C W
  push h x (gone p) = gone p
  push h x (leaf p y o) = leaf p y (Some x)
  push h x (fork p k None ts) = fork p k (Some x) ts
  push zero x (fork p k (Some y) ts) = fork p k (Some y) ts
  push (suc h) x (fork p k (Some y) ts) =
      let first = cond (is_lt (rank_order m x y)) x y in
      let last = cond (is_lt (rank_order m x y)) y x in
      fork p k (Some first) (alter (pick last.key ts) (push h last) ts)

  -- the point kept, if any, has the key k
  abbrev pub has_key : Key C → Option (Point C W) → Bool
  has_key k None = false
  has_key k (Some x) = is_eq (key_order m k x.key)

  -- the point of a key is no longer kept
  abbrev pub take_out : ℕ → Key C → Tree C W → Tree C W
  take_out h k (gone p) = gone p
  take_out h k (leaf p x o) = leaf p x None
  take_out zero k (fork p j o ts) = fork p j o ts
  take_out (suc h) k (fork p j o ts) = cond (has_key k o) (pull (suc h) (fork p j o ts)) (fork p j o (alter (pick k ts) (take_out h k) ts))

  -- the leaf on the way to a key has another weight
  abbrev pub weigh : ℕ → Key C → W → Tree C W → Tree C W
  weigh h k w (gone p) = gone p
  weigh h k w (leaf p x o) = leaf p (record { key = x.key; weight = w }) o
  weigh zero k w (fork p j o ts) = fork p j o ts
  weigh (suc h) k w (fork p j o ts) = fork p j o (alter (pick k ts) (weigh h k w) ts)

  -- the weight at the leaf on the way to a key, if the leaf has that key
  abbrev pub found : ℕ → Key C → Tree C W → Option W
  found h k (gone p) = None
  found h k (leaf p x o) = cond (is_eq (key_order m k x.key)) (Some x.weight) None
  found zero k (fork p j o ts) = None
  found (suc h) k (fork p j o ts) = found h k (nth_tree (pick k ts) ts)
