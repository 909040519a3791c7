-- What a window matches, and its sum.
use Rattle.std.specs.Prelude.{◌≡◌, ℕ, Bool, not, ◌&&◌, T, List, map, take, filter, Float}
use Rattle.std.specs.Float.Ieee.{le}
use Rattle.std.specs.Ordering.{is_le, is_gt}
use Rattle.std.specs.List.{AllByRecursion}
use Rattle.kinds.specs.Meaning.{Meaning}
pub use Rattle.sums.specs.Lists.{One}
use Rattle.sums.specs.Sum.{sum_of}
use Rattle.plain.specs.declared.point.Point.{Point}

module _ {C W R : Type 0} (m : Meaning C W R) where
  -- the first coordinate is later than the second
  abbrev pub later : C → C → Bool
  later a b = is_gt (m.order a b)

  -- the coordinate is not earlier than l and not later than u
  abbrev pub inside : C → C → C → Bool
  inside l u c = not (later l c) && not (later c u)

  -- the weight is not weaker than the threshold
  abbrev pub reaches : W → W → Bool
  reaches w threshold = is_le (m.strength w threshold)

  -- the points that match a window from l to u, in key order
  abbrev pub window : C → C → List (Point C W) → List (Point C W)
  window l u ps = filter (λ p. inside l u p.key.at) ps

  -- the points that match a window with a threshold, in key order
  abbrev pub matches : C → C → W → List (Point C W) → List (Point C W)
  matches l u w ps = filter (λ p. inside l u p.key.at && reaches p.weight w) ps

  -- the first points that match a window, at most so many
  abbrev pub firsts : ℕ → C → C → List (Point C W) → List (Point C W)
  firsts places l u ps = take places (window l u ps)

-- the binary32 sum of the numbers of the points' weights, in the order of the list
abbrev pub total : {C W : Type 0} → (W → Float) → List (Point C W) → Float
total number ps = sum_of (map (λ p. number p.weight) ps)

-- each key of the first list stands in the second, at a weight whose number is no smaller
abbrev pub Covered : {C W : Type 0} → (W → Float) → List (Point C W) → List (Point C W) → Type 0
Covered number ps qs = AllByRecursion (λ p. One (λ q. (p.key ≡ q.key) × T (le (number p.weight) (number q.weight))) qs) ps
