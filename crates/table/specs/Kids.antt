-- The children that a node records.
use Rattle.std.specs.Prelude.{ℕ, List, min, take}
use Rattle.table.specs.declared.children.Children.{Children}

-- the places of the children, from the left
abbrev pub kids_of : Children → List ℕ
kids_of c = take (min c.count 4) c.places
