use Rattle.std.proofs.Common.{◌+◌, ◌*◌, length}
use Rattle.checker.proofs.rules.+pass_all.Given as goal

abbrev pub decreases-pass_all : goal.decreases-pass_all
decreases-pass_all g l = 5 * l.height + length l.places.now
