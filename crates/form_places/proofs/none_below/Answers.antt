-- `form_places::none_below` meets its contract: the loop passes the places in order, and tests each. Assumes nothing.
use Rattle.std.proofs.Common.{◌<◌, ap, arith, leb, get_or-take, length-take}
use Rattle.general.proofs.Checks.{test-none, test-next, test-last}
use Rattle.form_places.proofs.none_below.Goals as goal

pub loop-timestamp-init : goal.loop-timestamp-init
loop-timestamp-init c = test-none

pub loop-timestamp-preserved : goal.loop-timestamp-preserved
loop-timestamp-preserved c =
    let h : c.loop-timestamp.timestamp-index < c.args.count = omega (arith, length-take c.args.count c.args.timestamps.now) in
    test-next h (ap (leb c.args.cutoff) (get_or-take c.args.count c.args.timestamps.now _ 0 h)) c.loop-timestamp.invariant

pub returns : goal.returns
returns c = test-last (omega (arith, length-take c.args.count c.args.timestamps.now)) c.loop-timestamp.invariant
