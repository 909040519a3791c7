use Rattle.lines.proofs.Readings.{one-reading}
use Rattle.lines.proofs.theorems.one_reading.Goals as goal

pub returns : goal.returns
returns c = one-reading
