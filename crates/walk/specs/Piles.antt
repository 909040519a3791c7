-- A stack of entries in a slice.
use Rattle.std.specs.Prelude.{List}
use Rattle.table.specs.declared.subtree.Subtree.{Subtree}
use Rattle.walk.specs.declared.pile.Pile.{Pile}
use Rattle.walk.specs.Entries.{pile}

-- its entries, the one that joined last first
abbrev pub pile_of : Pile → List Subtree
pile_of p = pile p.entries.now p.depth
