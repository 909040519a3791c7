use Rattle.walked.proofs.Logs.{bounds-example}
use Rattle.walked.proofs.theorems.bounds_example.Goals as goal

pub returns : goal.returns
returns c = bounds-example
