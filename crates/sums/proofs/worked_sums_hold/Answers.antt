use Rattle.std.proofs.Common.{refl}
use lib.Ieee.{add, of_bits, to_bits}
use Rattle.sums.proofs.worked_sums_hold.Goals as goal

pub returns : goal.returns
unfolding add of_bits to_bits
returns c = record { empty = refl; large_first = refl; small_first = refl; infinite = refl; stays_infinite = refl }
