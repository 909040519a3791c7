-- How large tables are and how many points they hold.
use Rattle.std.specs.Prelude.{ℕ, ◌+◌, ◌/◌, Bool, cond, ◌&&◌, nat_le}

-- the most nodes of a table
abbrev pub most_nodes : ℕ
most_nodes = 32767

-- a table has at least one node, and at most that many
abbrev pub table_fits : ℕ → Bool
table_fits nodes = nat_le 1 nodes && nat_le nodes most_nodes

-- how many points a table of so many nodes holds: none where the table is refused
abbrev pub capacity : ℕ → ℕ
capacity nodes = cond (table_fits nodes) ((nodes + 1) / 2) 0
