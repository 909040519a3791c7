use Rattle.std.proofs.Common.{◌≡◌, ◌+◌, ◌≤◌, ◌++◌, length, drop}
use Rattle.table.specs.Kids.{kids_of}
use Rattle.walk.specs.Entries.{pile, reaches_at, open_entries}
use Rattle.walk.specs.Piles.{pile_of}
use Rattle.walk.proofs.pile.Pile.push_open.Given as goal

-- the open ones of the children from number i on have joined
abbrev pub invariant-loop-i : goal.invariant-loop-i
invariant-loop-i g l =
    let m = g.K.Kind.meaning in
    let rest = drop l.i (kids_of l.children) in
    let joined = open_entries m l.nodes l.height l.lower l.upper rest in
    (l.i ≤ length (kids_of l.children))
    × (pile l.self.entries.now l.top ≡ joined ++ pile_of l.initial.self)
    × (l.top ≡ l.initial.self.depth + length joined)
    × (length l.self.entries.now ≡ length l.initial.self.entries.now)
    × (l.reaching ≡ reaches_at m l.nodes l.lower rest)
    × (l.self.entries.ghost_name ≡ l.initial.self.entries.ghost_name)
