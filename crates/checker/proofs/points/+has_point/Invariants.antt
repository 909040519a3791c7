use Rattle.std.proofs.Common.{◌+◌, ◌*◌, length}
use Rattle.checker.proofs.points.+has_point.Given as goal

abbrev pub decreases-has_point : goal.decreases-has_point
decreases-has_point g l = 5 * l.height + length l.places.now
