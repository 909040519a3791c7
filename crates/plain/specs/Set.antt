-- The plain set: a list of points that rises in key order, and what changes make of it.
use Rattle.std.specs.Prelude.{Bool, false, cond, not, List, [], ◌∷◌, is_some, Some, None, Option}
use Rattle.std.specs.Ordering.{is_eq, is_lt}
use Rattle.std.specs.List.{AllByRecursion}
use Rattle.kinds.specs.Meaning.{Meaning}
use Rattle.plain.specs.declared.point.Key.{Key}
use Rattle.plain.specs.declared.point.Point.{Point}
use Rattle.plain.specs.Points.{key_order, Before, FitPoint}

module _ {C W R : Type 0} (m : Meaning C W R) where
  -- each point's key is before the keys of all that follow, so that no key stands twice
  abbrev pub Rising : List (Point C W) → Type 0
  Rising [] = Unit {0}
  Rising (p ∷ ps) = AllByRecursion (λ q. Before m p.key q.key) ps × Rising ps

  -- each point is fit
  abbrev pub AllFit : List (Point C W) → Type 0
  AllFit ps = AllByRecursion (FitPoint m) ps

  -- the weight of a key, if the key stands
  abbrev pub weight_at : Key C → List (Point C W) → Option W
  weight_at k [] = None
  weight_at k (p ∷ ps) = cond (is_eq (key_order m k p.key)) (Some p.weight) (weight_at k ps)

  -- the key stands
  abbrev pub stands : Key C → List (Point C W) → Bool
  stands k ps = is_some (weight_at k ps)

  -- with one point more, at its place
  abbrev pub put : Point C W → List (Point C W) → List (Point C W)
  put x [] = x ∷ []
  put x (p ∷ ps) = cond (is_lt (key_order m x.key p.key)) (x ∷ p ∷ ps) (p ∷ put x ps)

  -- without the point of a key
  abbrev pub remove : Key C → List (Point C W) → List (Point C W)
  remove k [] = []
  remove k (p ∷ ps) = cond (is_eq (key_order m k p.key)) ps (p ∷ remove k ps)

  -- with another weight for the point of a key
  abbrev pub reweigh : Key C → W → List (Point C W) → List (Point C W)
  reweigh k w [] = []
  reweigh k w (p ∷ ps) = cond (is_eq (key_order m k p.key)) (record { key = p.key; weight = w } ∷ ps) (p ∷ reweigh k w ps)

  -- a key that is not after that of the last point, if there is one
  abbrev pub not_after_last : List (Point C W) → Key C → Bool
  not_after_last [] k = false
  not_after_last (p ∷ []) k = not (is_lt (key_order m p.key k))
  not_after_last (p ∷ q ∷ ps) k = not_after_last (q ∷ ps) k
