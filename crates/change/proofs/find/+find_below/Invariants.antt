use Rattle.change.proofs.find.+find_below.Given as goal

abbrev pub decreases-find_below : goal.decreases-find_below
decreases-find_below g l = l.tree.height
