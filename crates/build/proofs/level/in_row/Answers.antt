use Rattle.build.proofs.Rows.{row-kids}
use Rattle.build.proofs.level.in_row.Goals as goal

pub returns : goal.returns
returns c = rw (c.front.ensures, c.of.ensures, c.from.ensures) (row-kids c.args.n c.args.p c.requires.few)
