use Rattle.std.proofs.Common.{◌≡◌, ◌+◌, ◌<◌, length, drop}
use Rattle.table.specs.Kids.{kids_of}
use Rattle.table.specs.Reading.{kept_in}
use Rattle.tree.specs.Places.{best_from_at, best_at}
use Rattle.tree.proofs.search.best_child.Given as goal

-- the best so far, against those to come
abbrev pub invariant-loop-i : goal.invariant-loop-i
invariant-loop-i g l =
    let kids = kids_of l.fn.children in
    (best_from_at g.K.Kind.meaning l.nodes l.best.0 (kept_in g.K.Kind.meaning l.best.1) (l.i + 1) (drop (l.i + 1) kids) ≡ best_at g.K.Kind.meaning l.nodes kids)
    × (l.best.0 < length kids)
