use Rattle.std.proofs.Common.{length, string_bytes}
use Rattle.script.proofs.Running.{Leaves}
use Rattle.script.proofs.session.Session.run.Given as goal

abbrev pub invariant-loop-rest : goal.invariant-loop-rest
invariant-loop-rest l = Leaves l.initial.self.set l.script (string_bytes l.initial.self.out) l.self.set l.rest (string_bytes l.self.out)

abbrev pub decreases-loop-rest : goal.decreases-loop-rest
decreases-loop-rest l = length l.rest
