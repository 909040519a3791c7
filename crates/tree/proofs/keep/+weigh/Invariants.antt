use Rattle.tree.proofs.keep.+weigh.Given as goal

abbrev pub decreases-weigh : goal.decreases-weigh
decreases-weigh g l = l.tree.height
