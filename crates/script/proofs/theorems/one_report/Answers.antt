use Rattle.script.proofs.Once.{one-report}
use Rattle.script.proofs.theorems.one_report.Goals as goal

pub returns : goal.returns
returns c = one-report
