use Rattle.std.proofs.Common.{arith, rules}
use Rattle.lines.proofs.Writing.{hex-room}
use Rattle.lines.proofs.digits.pattern.Goals as goal

pub overflow_add-n : goal.overflow_add-n
overflow_add-n c = let r = hex-room c.loop-b.n c.loop-b.b-index c.loop-b.invariant.2 (omega arith) in let d = c.in_ok-d.ensures in search rules
