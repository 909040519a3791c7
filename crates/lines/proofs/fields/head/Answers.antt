use Rattle.std.proofs.Common.{sym, ◌∙◌, subst}
use Rattle.lines.specs.Digits.{Decimal}
use Rattle.lines.proofs.Cuts.{no-blank, cut-once, uncut}
use Rattle.lines.proofs.fields.head.Goals as goal

pub returns-in_err-x : goal.returns-in_err-x
returns-in_err-x c = rw c.from_residual.ensures (λ n y h. uncut 32 c.args.s.now h.0 y c.in_err-x.ensures h.2)

pub returns-in_err-n : goal.returns-in_err-n
returns-in_err-n c = rw c.from_residual-in_err-n.ensures
    (λ n y h.
    let f = c.in_ok-x.ensures in
    let same = cut-once 32 h.0 y _ _ (no-blank h.0 h.1.digits) f.0 (sym h.2 ∙ f.1) in
    c.in_err-n.ensures n (subst (Decimal c.args.top n) same.0 h.1))
