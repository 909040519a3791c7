-- A node has at most four children.
use Rattle.std.proofs.Common.{◌≤◌, length, arith, min}
use Rattle.std.proofs.lemmas.List.{length-take}
use Rattle.table.specs.declared.children.Children.{Children}
use Rattle.table.specs.Kids.{kids_of}

pub few : (s : Children) → length (kids_of s) ≤ 4
few s = grind (arith, length-take (min s.count 4) s.places)
