use Rattle.std.proofs.Common.{◌+◌, ◌*◌, length}
use Rattle.checker.proofs.count.+count_all.Given as goal

abbrev pub decreases-count_all : goal.decreases-count_all
decreases-count_all g l = 5 * l.height + length l.places.now
