use Rattle.shrink.proofs.Basics.{seated_sounds, seated_both}
use Rattle.shrink.proofs.join.seat_both.Goals as goal

pub seat_kept-requires-2-clause-sounds : goal.seat_kept-requires-2-clause-sounds
seat_kept-requires-2-clause-sounds g c = seated_sounds c.seat_kept.auto.nodes c.seat_kept.ensures c.requires.sounds

pub returns : goal.returns
returns g c = seated_both c.seat_kept.auto.nodes c.seat_kept.ensures c.seat_kept-2.ensures
