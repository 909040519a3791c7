use Rattle.lines.proofs.Cuts.{heads_of, heads_rest}
use Rattle.lines.proofs.fields.listing.Goals as goal

pub returns-in_err-l : goal.returns-in_err-l
returns-in_err-l c = rw c.from_residual.ensures (λ a b d h. c.in_err-l.ensures a b h.2.0 (heads_of _ _ _ _ _ _ h))

pub returns-in_err-k : goal.returns-in_err-k
returns-in_err-k c = rw c.from_residual-in_err-k.ensures (λ a b d h. c.in_err-k.ensures d (heads_rest _ _ _ _ _ _ _ _ _ c.in_ok-l.ensures h))
