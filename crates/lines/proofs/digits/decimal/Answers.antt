use Rattle.std.proofs.Common.{arith}
use Rattle.lines.proofs.Writing.{writes-more}
use Rattle.lines.proofs.digits.decimal.Goals as goal

pub returns-in_err-checked_mul : goal.returns-in_err-checked_mul
returns-in_err-checked_mul c = rw c.from_residual-in_err-checked_mul.ensures
    (λ n h. c.in_err-checked_mul.ensures (omega (arith, writes-more c.loop-b.n c.args.s.now c.loop-b.b-index c.loop-b-test.true, c.loop-b.invariant.1)))

pub returns-in_err-n : goal.returns-in_err-n
returns-in_err-n c = rw c.from_residual-in_err-n.ensures
    (λ n h.
    c.in_err-n.ensures (omega (arith, writes-more c.loop-b.n c.args.s.now c.loop-b.b-index c.loop-b-test.true, c.loop-b.invariant.1, c.in_ok-checked_mul.ensures, c.in_ok-d.ensures, c.from.ensures)))
