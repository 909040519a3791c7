use Rattle.std.proofs.Common.{◌≡◌, ◌^◌, ◌<◌, take, drop}
use Rattle.std.specs.List.{AllByRecursion}
use Rattle.lines.specs.Digits.{Hex, writes}
use Rattle.lines.proofs.digits.pattern.Given as goal

abbrev pub invariant-loop-b : goal.invariant-loop-b
invariant-loop-b l = AllByRecursion Hex (take l.b-index l.s) × (writes 16 l.n (drop l.b-index l.s) ≡ writes 16 0 l.s) × (l.n < 16 ^ l.b-index)
