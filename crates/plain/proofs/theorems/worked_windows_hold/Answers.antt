use Rattle.std.proofs.Common.{refl}
use lib.Ieee.{add, of_bits, to_bits, lt, fits}
use Rattle.plain.proofs.theorems.worked_windows_hold.Goals as goal

pub returns : goal.returns
unfolding add of_bits to_bits lt fits
returns c = record { nothing = refl; lost = refl; without_first = refl; two_places = refl; removed = refl; overflow = refl; strong = refl; largest_fit = refl; infinite_unfit = refl; negative_unfit = refl; backward = refl }
