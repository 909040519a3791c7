use Rattle.std.proofs.Common.{◌≡◌, ◌+◌, ◌≤◌, length}
use Rattle.std.specs.List.{flat_map}
use Rattle.plain.specs.Windows.{matches}
use Rattle.walked.specs.Walk.{kept_at, leads_on}
use Rattle.walk.specs.Entries.{Rooms, AllSound, to_come}
use Rattle.walk.specs.Piles.{pile_of}
use Rattle.walk.proofs.Ranges.{Listing}
use Rattle.walk.proofs.range.range_walk.Given as goal

-- what was visited and what is to come are the whole walk, and so are the points listed and those to come
abbrev pub invariant-loop-next : goal.invariant-loop-next
invariant-loop-next g l =
    let m = g.K.Kind.meaning in
    let left = pile_of l.stack in
    let coming = to_come m l.nodes (leads_on m l.threshold) l.bounds.lower l.bounds.upper left in
    let whole = to_come m l.nodes (leads_on m l.threshold) l.bounds.lower l.bounds.upper (pile_of l.initial.stack) in
    (length l.stack.entries.now ≡ 43)
    × (l.stack.depth ≤ 43)
    × AllSound m l.nodes left
    × Rooms left
    × (l.visited + length coming ≡ length whole)
    × (l.matches ≤ l.visited)
    × Listing (matches m l.bounds.lower l.bounds.upper l.threshold (flat_map kept_at whole)) (matches m l.bounds.lower l.bounds.upper l.threshold (flat_map kept_at coming)) l.initial.list l.list l.matches

abbrev pub decreases-loop-next : goal.decreases-loop-next
decreases-loop-next g l = length (to_come g.K.Kind.meaning l.nodes (leads_on g.K.Kind.meaning l.threshold) l.bounds.lower l.bounds.upper (pile_of l.stack))
