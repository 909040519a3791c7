use Rattle.shrink.proofs.remove.+remove_at.Given as goal

abbrev pub decreases-remove_at : goal.decreases-remove_at
decreases-remove_at g l = l.tree.height
