use Rattle.std.proofs.Common.{refl, rules}
use Rattle.script.proofs.Running.{cut_run, all_run}
use Rattle.script.proofs.session.Session.run.Goals as goal

pub loop-rest-preserved : goal.loop-rest-preserved
loop-rest-preserved c = cut_run _ _ _ _ _ _ c.loop-rest.invariant _ _ _ c.unwrap_or.ensures refl refl (search rules) c.split_once.ensures _ _ c.in_ok-reply.ensures

pub returns : goal.returns
returns c = all_run _ _ _ _ _ _ c.loop-rest.invariant (search rules)
