-- Where a key stands in a list of points, or where its point would go.
use Rattle.std.specs.Prelude.{◌≡◌, ℕ, ◌<◌, ◌≤◌, true, false, List, length, slice_set, Float}
use Rattle.std.specs.List.{insert, remove as removed}
use Rattle.kinds.specs.Kinds.{small}
use Rattle.plain.specs.declared.point.Key.{Key}
use Rattle.plain.specs.declared.point.Point.{Point}
use Rattle.plain.specs.Set.{stands, put, remove, reweigh}

-- the key stands at place i: what is removed, and what has another weight, stands there
pub record StandsAt (k : Key ℕ) (ps : List (Point ℕ Float)) (i : ℕ) : Type 0 where
  pub within : i < length ps
  pub found : stands small k ps ≡ true
  pub removes : remove small k ps ≡ removed ps i
  pub reweighs : (w : Float) → reweigh small k w ps ≡ slice_set ps i (record { key = k; weight = w })

-- the key does not stand, and a point of it goes to place i
pub record GoesAt (k : Key ℕ) (ps : List (Point ℕ Float)) (i : ℕ) : Type 0 where
  pub within : i ≤ length ps
  pub missing : stands small k ps ≡ false
  pub puts : (p : Point ℕ Float) → p.key ≡ k → put small p ps ≡ insert ps i p
