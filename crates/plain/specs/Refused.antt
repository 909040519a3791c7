-- When a call is refused, and by what: its tests in the order in which they run.
use Rattle.std.specs.Prelude.{ℕ, not, List, [], ◌∷◌, length, Option, ◌==◌, nat_lt}
use Rattle.kinds.specs.Meaning.{Meaning}
use Rattle.refusals.specs.declared.Refusal.{Refusal}
use Rattle.refusals.specs.declared.Refusal.TheVariants.{Unfit, Stands, Full, Missing, Reversed, Frontier, Order}
use Rattle.refusals.specs.Refusals.{refusal_of}
use Rattle.plain.specs.declared.point.Key.{Key}
use Rattle.plain.specs.declared.point.Point.{Point}
use Rattle.plain.specs.Set.{stands, not_after_last}
use Rattle.plain.specs.Windows.{later}

module _ {C W R : Type 0} (m : Meaning C W R) where
  -- insert: an unfit point, a key that stands, as many points as there is room for
  abbrev pub insert_refused : ℕ → Point C W → List (Point C W) → Option Refusal
  insert_refused room p ps = refusal_of ((not (m.fit p.key.at p.weight), Unfit) ∷ (stands m p.key ps, Stands) ∷ ((length ps == room), Full) ∷ [])

  -- append: an unfit point, a key not after the last, as many points as there is room for
  abbrev pub append_refused : ℕ → Point C W → List (Point C W) → Option Refusal
  append_refused room p ps = refusal_of ((not (m.fit p.key.at p.weight), Unfit) ∷ (not_after_last m ps p.key, Order) ∷ ((length ps == room), Full) ∷ [])

  -- delete: no such key
  abbrev pub delete_refused : Key C → List (Point C W) → Option Refusal
  delete_refused k ps = refusal_of ((not (stands m k ps), Missing) ∷ [])

  -- change: an unfit point, no such key
  abbrev pub change_refused : Key C → W → List (Point C W) → Option Refusal
  change_refused k w ps = refusal_of ((not (m.fit k.at w), Unfit) ∷ (not (stands m k ps), Missing) ∷ [])

  -- range, before its walk: a reversed window, an unfit threshold
  abbrev pub range_refused : C → C → W → Option Refusal
  range_refused l u w = refusal_of ((later m l u, Reversed) ∷ (not (m.threshold w), Unfit) ∷ [])

  -- overlap, before its walk: a reversed window
  abbrev pub overlap_refused : C → C → Option Refusal
  overlap_refused l u = refusal_of ((later m l u, Reversed) ∷ [])

  -- first and sum: a reversed window, a frontier with fewer places than there are points
  abbrev pub frontier_refused : C → C → ℕ → List (Point C W) → Option Refusal
  frontier_refused l u places ps = refusal_of ((later m l u, Reversed) ∷ (nat_lt places (length ps), Frontier) ∷ [])
