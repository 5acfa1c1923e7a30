-- `carrying::carry_first` meets its contract: a turn carries the writes of the next change. Assumes nothing.
use Rattle.std.proofs.Common.{arith, length-take}
use Rattle.std.proofs.Math.Seq.{get_or-take}
use Rattle.carrying.proofs.Carried.{carried_none, carried-next}
use Rattle.carrying.proofs.carry_first.Goals as goal

pub loop-place-init : goal.loop-place-init
loop-place-init c = carried_none _ _ _

pub loop-place-preserved : goal.loop-place-preserved
loop-place-preserved c = carried-next _ _ _ _ c.loop-place.invariant (get_or-take c.args.count _ c.loop-place.place-index 0 (omega (arith, length-take c.args.count c.args.order.now))) c.carry_writes.ensures
