use Rattle.std.proofs.Common.{rules}
use Rattle.lines.proofs.Sayings.{no-insert, no_change, no-delete, no-sum, no-first, no-range}
use Rattle.lines.proofs.line.parse.Goals as goal

pub returns-in_err-epoch-in-105 : goal.returns-in_err-epoch-in-105
returns-in_err-epoch-in-105 c = rw c.from_residual.ensures (no-insert c.args.line.now (search rules) (search rules) (search rules) c.in_err-epoch-in-105.ensures)

pub returns-in_err-epoch-in-99 : goal.returns-in_err-epoch-in-99
returns-in_err-epoch-in-99 c = rw c.from_residual-in_err-epoch-in-99.ensures (no_change c.args.line.now (search rules) (search rules) (search rules) c.in_err-epoch-in-99.ensures)

pub returns-in_err-epoch-in-100 : goal.returns-in_err-epoch-in-100
returns-in_err-epoch-in-100 c = rw c.from_residual-in_err-epoch-in-100.ensures (no-delete c.args.line.now (search rules) (search rules) (search rules) c.in_err-epoch-in-100.ensures)

pub returns-in_err-lo-in-115 : goal.returns-in_err-lo-in-115
returns-in_err-lo-in-115 c = rw c.from_residual-in_err-lo-in-115.ensures (no-sum c.args.line.now (search rules) (search rules) (search rules) c.in_err-lo-in-115.ensures)

pub returns-in_err-lo-in-102 : goal.returns-in_err-lo-in-102
returns-in_err-lo-in-102 c = rw c.from_residual-in_err-lo-in-102.ensures (no-first c.args.line.now (search rules) (search rules) (search rules) c.in_err-lo-in-102.ensures)

pub returns-in_err-lo-in-114 : goal.returns-in_err-lo-in-114
returns-in_err-lo-in-114 c = rw c.from_residual-in_err-lo-in-114.ensures (no-range c.args.line.now (search rules) (search rules) (search rules) c.in_err-lo-in-114.ensures)
