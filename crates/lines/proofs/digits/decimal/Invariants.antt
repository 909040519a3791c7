use Rattle.std.proofs.Common.{◌≡◌, take, drop}
use Rattle.std.specs.List.{AllByRecursion}
use Rattle.lines.specs.Digits.{Ten, writes}
use Rattle.lines.proofs.digits.decimal.Given as goal

abbrev pub invariant-loop-b : goal.invariant-loop-b
invariant-loop-b l = AllByRecursion Ten (take l.b-index l.s) × (writes 10 l.n (drop l.b-index l.s) ≡ writes 10 0 l.s)
