-- Sums over the points of a list and over those kept in a tree: split in two, and zero where two others are.
use Rattle.std.proofs.Common.{◌≡◌, ℕ, ◌+◌, ◌≤◌, List, [], ◌∷◌, Some, None, Option, refl, arith}
use Rattle.std.specs.List.{AllByRecursion}
use Rattle.kinds.specs.Meaning.{Meaning}
use Rattle.plain.specs.declared.point.Point.{Point}
use Rattle.trees.specs.Tree.{Tree, Forest, gone, leaf, fork, none, more, kept_by, points, points_all}
use Rattle.trees.specs.Heap.{total, held, tally, tally_all, below, Heap, HeapAll, HeapBelow}
use Rattle.trees.proofs.Forests.{total-++}

module _ {C W : Type 0} where
  -- a sum split in two
  module _ (f g k : Point C W → ℕ) (split : (z : Point C W) → f z ≡ g z + k z) where
    pub total-split : (xs : List (Point C W)) → total f xs ≡ total g xs + total k xs
    total-split [] = omega arith
    total-split (x ∷ xs) = omega (arith, total-split xs, split x)

    held-split : (o : Option (Point C W)) → held f o ≡ held g o + held k o
    held-split None = omega arith
    held-split (Some x) = split x

    mutual
      pub tally-split : (t : Tree C W) → tally t f ≡ tally t g + tally t k
      tally-split (gone p) = omega arith
      tally-split (leaf p x o) = held-split o
      tally-split (fork p j o ts) = omega (arith, held-split o, tallies-split ts)

      pub tallies-split : (ts : Forest C W) → tally_all ts f ≡ tally_all ts g + tally_all ts k
      tallies-split none = omega arith
      tallies-split (more t ts) = omega (arith, tally-split t, tallies-split ts)

  -- a sum that is 0 where two others are
  module _ (u g k : Point C W → ℕ) (so : (z : Point C W) → u z ≡ 0 → g z ≡ 0 → k z ≡ 0) where
    held-zero : (o : Option (Point C W)) → held u o ≡ 0 → held g o ≡ 0 → held k o ≡ 0
    held-zero None p q = refl
    held-zero (Some x) p q = so x p q

    mutual
      pub tally-zero : (t : Tree C W) → tally t u ≡ 0 → tally t g ≡ 0 → tally t k ≡ 0
      tally-zero (gone p) a b = refl
      tally-zero (leaf p x o) a b = held-zero o a b
      tally-zero (fork p j o ts) a b = omega (arith, held-zero o (omega arith) (omega arith), tallies-zero ts (omega arith) (omega arith))

      pub tallies-zero : (ts : Forest C W) → tally_all ts u ≡ 0 → tally_all ts g ≡ 0 → tally_all ts k ≡ 0
      tallies-zero none a b = refl
      tallies-zero (more t ts) a b = omega (arith, tally-zero t (omega arith) (omega arith), tallies-zero ts (omega arith) (omega arith))

  pub total-none : (g : Point C W → ℕ) (P : Point C W → Type 0) → ((z : Point C W) → P z → g z ≡ 0) → (xs : List (Point C W)) → AllByRecursion P xs → total g xs ≡ 0
  total-none g P k [] a = refl
  total-none g P k (x ∷ xs) (p, a) = omega (arith, k x p, total-none g P k xs a)

  -- what a tree keeps is what its root keeps, and what it keeps below
  pub root-held : (t : Tree C W) (f : Point C W → ℕ) → tally t f ≡ held f (kept_by t) + below t f
  root-held (gone p) f = omega arith
  root-held (leaf p x o) f = omega arith
  root-held (fork p k o ts) f = refl

module _ {C W R : Type 0} (m : Meaning C W R) where
  -- what a tree keeps is among its points
  pub among : (t : Tree C W) → Heap m t → (f : Point C W → ℕ) → tally t f ≤ total f (points t)
  among (gone p) h f = omega arith
  among (leaf p x o) h f = omega (arith, h f)
  among (fork p k o ts) h f = h.0 f

  pub among-all : (ts : Forest C W) → HeapAll m ts → (f : Point C W → ℕ) → tally_all ts f ≤ total f (points_all ts)
  among-all none h f = omega arith
  among-all (more t ts) (a, b) f = omega (arith, among t a f, among-all ts b f, total-++ f (points t) (points_all ts))

  pub heap-below : (t : Tree C W) → Heap m t → HeapBelow m t
  heap-below (gone p) h = tt
  heap-below (leaf p x o) h = tt
  heap-below (fork p k o ts) h = h.2
