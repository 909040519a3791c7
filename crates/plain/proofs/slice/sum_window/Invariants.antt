use Rattle.std.proofs.Common.{◌≡◌, ◌+◌, ◌≤◌, map, length, drop}
use Rattle.sums.specs.Sum.{sum_from}
use Rattle.plain.specs.Windows.{window, total}
use Rattle.plain.proofs.slice.sum_window.Given as goal

-- the points left, added to the sum so far, give the whole sum; likewise the count
abbrev pub invariant-loop-p : goal.invariant-loop-p
invariant-loop-p g l =
    let m = g.K.Kind.meaning in
    let n = g.K.SummedKind.number in
    let left = window m l.bounds.lower l.bounds.upper (drop l.p-index l.points) in
    let all = window m l.bounds.lower l.bounds.upper l.points in
    (sum_from l.sum (map (λ p. n p.weight) left) ≡ total n all) × (l.count + length left ≡ length all) × (l.count ≤ l.p-index)
