use Rattle.plain.proofs.Laws.{set-laws}
use Rattle.plain.proofs.theorems.set_laws_hold.Goals as goal

pub returns : goal.returns
returns g c = set-laws g.K.Kind.meaning g.met.K.Kind.first
