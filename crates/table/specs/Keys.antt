-- The keys of stored points.
use Rattle.plain.specs.declared.point.Key.{Key}
use Rattle.table.specs.declared.node.Stored.{Stored}

-- the key of a stored point
abbrev pub key_in : {C R : Type 0} → Stored C R → Key C
key_in s = record { at = s.at; number = s.number }
