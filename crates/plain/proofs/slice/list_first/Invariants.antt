use Rattle.std.proofs.Common.{◌≡◌, ◌≤◌, ◌++◌, length, take, drop}
use Rattle.plain.specs.Windows.{window}
use Rattle.plain.proofs.slice.list_first.Given as goal

-- the list begins with the matches so far, and goes on as it was
abbrev pub invariant-loop-p : goal.invariant-loop-p
invariant-loop-p g l =
    let seen = window g.K.Kind.meaning l.bounds.lower l.bounds.upper (take l.p-index l.points) in
    (l.list ≡ seen ++ drop l.count l.initial.list) × (l.count ≡ length seen) × (l.count ≤ length l.initial.list)
