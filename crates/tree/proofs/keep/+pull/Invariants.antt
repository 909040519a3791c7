use Rattle.tree.proofs.keep.+pull.Given as goal

abbrev pub decreases-pull : goal.decreases-pull
decreases-pull g l = l.tree.height
