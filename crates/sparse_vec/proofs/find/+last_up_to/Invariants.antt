-- `sparse_vec::find::last_up_to` meets its contract. Assumes nothing.
use Rattle.sparse_vec.proofs.find.+last_up_to.Given as goal

abbrev pub decreases-last_up_to : goal.decreases-last_up_to
decreases-last_up_to g l = l.n
