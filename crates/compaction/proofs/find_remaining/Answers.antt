-- `compaction::find_remaining` meets its contract: place by place. Assumes nothing.
use Rattle.std.proofs.Common.{arith}
use Rattle.compaction.proofs.Places.{look_none, look-few, look-remains, look-dropped}
use Rattle.compaction.proofs.find_remaining.Goals as goal
use Rattle.compaction.proofs.find_remaining.Goals.{then-t-timestamps, else-t-timestamps}

pub loop-i-init : goal.loop-i-init
loop-i-init c = look_none c.requires.2 c.requires.3

pub bounds-places-found : goal.bounds-places-found
bounds-places-found c = omega (arith, look-few c.loop-i.invariant)

pub loop-i-preserved : goal.loop-i-preserved
loop-i-preserved c =
    elim c.if-t-timestamps.branch [ then-t-timestamps w ↦ look-remains c.loop-i.invariant (omega arith) w.if-t-timestamps.true w.found-is | else-t-timestamps w ↦ look-dropped c.loop-i.invariant (omega arith) w.if-t-timestamps.false w.found-is ]
