-- Each call clears one column: the columns left are the measure. Assumes nothing.
use Rattle.properties.proofs.branch.+has_kernel.Given as goal

abbrev pub decreases-has_kernel : goal.decreases-has_kernel
decreases-has_kernel l = l.c
