-- The three calls of itself are of half the order, the measure. Assumes nothing.
use Rattle.multiply.proofs.+halved.Given as goal

abbrev pub decreases-halved : goal.decreases-halved
decreases-halved l = l.n
