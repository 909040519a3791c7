use Rattle.tree.proofs.keep.+take_out.Given as goal

abbrev pub decreases-take_out : goal.decreases-take_out
decreases-take_out g l = l.tree.height
