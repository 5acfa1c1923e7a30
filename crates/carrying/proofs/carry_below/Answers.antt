-- One change more is carried.
use Rattle.std.proofs.Common.{arith, length-take}
use Rattle.std.proofs.Math.Seq.{get_or-take}
use Rattle.values.specs.Values.{lists_of}
use Rattle.carrying.proofs.Carried.{below_none, below-more}
use Rattle.carrying.proofs.carry_below.Goals as goal

pub loop-place-init : goal.loop-place-init
loop-place-init c = below_none (lists_of c.args.history.now)

pub loop-place-preserved : goal.loop-place-preserved
loop-place-preserved c =
    below-more (lists_of c.args.history.now) c.loop-place.place-index c.loop-place.invariant (get_or-take c.args.k _ c.loop-place.place-index 0 (omega (arith, length-take c.args.k c.args.history.now.order.now))) c.carry_place.ensures
