-- Key order and rank order, for every kind.
use Rattle.std.specs.Prelude.{◌≡◌, T}
use Rattle.std.specs.declared.cmp.Ordering.TheVariants.{Less}
use Rattle.std.specs.declared.cmp.Ordering.{Ordering}
use Rattle.std.specs.Ordering.{ordering_then}
use Rattle.kinds.specs.Order.{by_number}
use Rattle.kinds.specs.Meaning.{Meaning}
use Rattle.plain.specs.declared.point.Key.{Key}
use Rattle.plain.specs.declared.point.Point.{Point}

module _ {C W R : Type 0} (m : Meaning C W R) where
  -- key order: the earlier coordinate first, on a tie the smaller number
  abbrev pub key_order : Key C → Key C → Ordering
  key_order a b = ordering_then (m.order a.at b.at) (by_number a.number b.number)

  -- rank order: the stronger weight first, on a tie key order
  abbrev pub rank_order : Point C W → Point C W → Ordering
  rank_order p q = ordering_then (m.strength p.weight q.weight) (key_order p.key q.key)

  -- the first key is before the second
  abbrev pub Before : Key C → Key C → Type 0
  Before a b = key_order a b ≡ Less

  -- a fit point: its coordinate and its weight are fit together
  abbrev pub FitPoint : Point C W → Type 0
  FitPoint p = T (m.fit p.key.at p.weight)
