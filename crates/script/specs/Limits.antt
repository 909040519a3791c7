-- How long a script may be, and how much the index of a script holds.
use Rattle.std.specs.Prelude.{ℕ}
use Rattle.refusals.specs.Limits.{capacity}

-- the most bytes of a script
abbrev pub most_bytes : ℕ
most_bytes = 60000

-- the points that an index of 511 nodes holds
abbrev pub room : ℕ
room = capacity 511

-- the places of the frontier
abbrev pub frontier : ℕ
frontier = 256
