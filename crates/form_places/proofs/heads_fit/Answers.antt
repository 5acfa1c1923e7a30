-- `form_places::heads_fit` meets its contract: the loop passes the places in order, and tests each. Assumes nothing.
use Rattle.general.proofs.Checks.{test-none, test-next, test-last}
use Rattle.form_places.proofs.heads_fit.Goals as goal

pub loop-i-init : goal.loop-i-init
loop-i-init c = test-none

pub loop-i-preserved : goal.loop-i-preserved
loop-i-preserved c = test-next c.loop-i-test.true c.head_fits-fits.ensures c.loop-i.invariant

pub returns : goal.returns
returns c = test-last c.loop-i-test.false c.loop-i.invariant
