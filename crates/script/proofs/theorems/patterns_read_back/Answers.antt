use Rattle.script.proofs.ReadBack.{reads-back}
use Rattle.script.proofs.theorems.patterns_read_back.Goals as goal

pub returns : goal.returns
returns c = reads-back
