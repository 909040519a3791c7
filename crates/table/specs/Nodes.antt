-- Nodes made anew, or with one part changed.
use Rattle.std.specs.Prelude.{Option, None}
use Rattle.table.specs.declared.node.Node.{Node}
use Rattle.table.specs.declared.node.Stored.{Stored}
use Rattle.table.specs.declared.children.Children.{Children}

module _ {C R : Type 0} where
  -- a node that keeps nothing, with a key and children
  abbrev pub bare : Stored C R → Children → Node C R
  bare s c = record { own = s; kept = None; children = c }

  -- with another kept point, or none
  abbrev pub keeping : Node C R → Option (Stored C R) → Node C R
  keeping n o = record { own = n.own; kept = o; children = n.children }

  -- over other children, with the key of the first
  abbrev pub over : Node C R → Stored C R → Children → Node C R
  over n s c = record { own = s; kept = n.kept; children = c }

  -- with another weight of its own
  abbrev pub weighing : Node C R → R → Node C R
  weighing n w = record { own = record { at = n.own.at; number = n.own.number; weight = w }; kept = n.kept; children = n.children }
