use Rattle.std.proofs.Common.{refl, arith}
use Rattle.std.proofs.lemmas.Option.{slice_get_read}
use Rattle.table.proofs.node.read.Goals as goal

pub returns : goal.returns
returns g c = rw (← c.from.ensures) (slice_get_read c.args.nodes.now _ c.from.result _ refl (omega (arith, c.from.ensures, c.requires)) c.index-nodes-from.is)
