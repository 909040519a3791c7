use Rattle.tree.proofs.keep.+push.Given as goal

abbrev pub decreases-push : goal.decreases-push
decreases-push g l = l.tree.height
