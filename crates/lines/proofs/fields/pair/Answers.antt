use Rattle.lines.specs.Digits.{Decimal}
use Rattle.lines.proofs.Cuts.{then-rest}
use Rattle.lines.proofs.fields.pair.Goals as goal

pub returns-in_err-a : goal.returns-in_err-a
returns-in_err-a c = rw c.from_residual.ensures (λ a b h. c.in_err-a.ensures a h.0 h.1)

pub returns-in_err-b : goal.returns-in_err-b
returns-in_err-b c = rw c.from_residual-in_err-b.ensures
    (λ a b h. c.in_err-b.ensures b (then-rest _ c.args.top c.args.top _ a _ (Decimal c.args.next b) c.in_ok-a.ensures h))
