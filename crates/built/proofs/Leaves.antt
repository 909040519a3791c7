-- Leaves at places in a row, one for each point, which keep their points.
use Rattle.std.proofs.Common.{◌≡◌, ℕ, suc, List, [], ◌∷◌, length, refl, ap, arith}
use Rattle.kinds.specs.Meaning.{Meaning}
use Rattle.plain.specs.declared.point.Point.{Point}
use Rattle.trees.specs.Tree.{Forest, gone, leaf, fork, none, more, count, points_all, size_all, uses_all}
use Rattle.trees.specs.Rules.{LevelAll, DegreesAll, KeyedAll}
use Rattle.trees.specs.Heap.{total, tally_all, HeapAll, Good, SortedAll}
use Rattle.built.specs.Build.{occurs, row, leaves_from}

module _ {C W : Type 0} where
  -- ---- trees of height 0 are leaves
  pub flat-degrees : (a b : ℕ) (ts : Forest C W) → LevelAll ts 0 → DegreesAll ts a b
  flat-degrees a b none l = tt
  flat-degrees a b (more (gone p) ts) l = absurd l.0
  flat-degrees a b (more (leaf p x o) ts) l = (tt, flat-degrees a b ts l.1)
  flat-degrees a b (more (fork p k o us) ts) l = absurd l.0

  pub flat-count : (ts : Forest C W) → LevelAll ts 0 → count ts ≡ length (points_all ts)
  flat-count none l = refl
  flat-count (more (gone p) ts) l = absurd l.0
  flat-count (more (leaf p x o) ts) l = ap suc (flat-count ts l.1)
  flat-count (more (fork p k o us) ts) l = absurd l.0

  -- ---- the leaves of points
  pub leaves-level : (p : ℕ) (xs : List (Point C W)) → LevelAll (leaves_from p xs) 0
  leaves-level p [] = tt
  leaves-level p (x ∷ xs) = (refl, leaves-level (suc p) xs)

  pub leaves-keyed : (p : ℕ) (xs : List (Point C W)) → KeyedAll (leaves_from p xs)
  leaves-keyed p [] = tt
  leaves-keyed p (x ∷ xs) = (tt, leaves-keyed (suc p) xs)

  pub leaves-points : (p : ℕ) (xs : List (Point C W)) → points_all (leaves_from p xs) ≡ xs
  leaves-points p [] = refl
  leaves-points p (x ∷ xs) = ap (λ ys. x ∷ ys) (leaves-points (suc p) xs)

  pub leaves-count : (p : ℕ) (xs : List (Point C W)) → count (leaves_from p xs) ≡ length xs
  leaves-count p [] = refl
  leaves-count p (x ∷ xs) = ap suc (leaves-count (suc p) xs)

  pub leaves-size : (p : ℕ) (xs : List (Point C W)) → size_all (leaves_from p xs) ≡ length xs
  leaves-size p [] = refl
  leaves-size p (x ∷ xs) = omega (arith, leaves-size (suc p) xs)

  pub leaves-uses : (p : ℕ) (xs : List (Point C W)) (q : ℕ) → uses_all (leaves_from p xs) q ≡ occurs q (row (length xs) p)
  leaves-uses p [] q = refl
  leaves-uses p (x ∷ xs) q = omega (arith, leaves-uses (suc p) xs q)

  -- every point is kept
  pub leaves-tally : (p : ℕ) (xs : List (Point C W)) (f : Point C W → ℕ) → tally_all (leaves_from p xs) f ≡ total f xs
  leaves-tally p [] f = refl
  leaves-tally p (x ∷ xs) f = omega (arith, leaves-tally (suc p) xs f)

  pub leaves-full : (p : ℕ) (xs : List (Point C W)) (f : Point C W → ℕ) → tally_all (leaves_from p xs) f ≡ total f (points_all (leaves_from p xs))
  leaves-full p [] f = refl
  leaves-full p (x ∷ xs) f = omega (arith, leaves-full (suc p) xs f)

module _ {C W R : Type 0} (m : Meaning C W R) where
  pub leaves-heap : (p : ℕ) (xs : List (Point C W)) → HeapAll m (leaves_from p xs)
  leaves-heap p [] = tt
  leaves-heap p (x ∷ xs) = (λ f. omega arith, leaves-heap (suc p) xs)

  pub leaves_sorted : (p : ℕ) (xs : List (Point C W)) → Good m xs → SortedAll m 0 (leaves_from p xs)
  leaves_sorted p xs good = record { level = leaves-level p xs; keyed = leaves-keyed p xs; good = rw leaves-points good }
