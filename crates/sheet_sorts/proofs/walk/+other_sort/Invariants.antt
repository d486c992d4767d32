use Rattle.sheet_sorts.proofs.walk.+other_sort.Given as goal

abbrev pub decreases-other_sort : goal.decreases-other_sort
decreases-other_sort l = l.r
