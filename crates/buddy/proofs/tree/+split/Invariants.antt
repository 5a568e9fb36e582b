use Rattle.buddy.proofs.tree.+split.Given as goal

abbrev pub decreases-split : goal.decreases-split
decreases-split l = l.k
