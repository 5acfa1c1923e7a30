-- `fresh::run_held` meets its contract: a turn runs the next change, or passes over it. Assumes nothing.
use Rattle.std.proofs.Common.{arith, ◌∙◌, length-take}
use Rattle.std.proofs.Math.Seq.{get_or-take}
use Rattle.general.proofs.Parts.{used-part}
use Rattle.fresh.proofs.HeldRun.{held_none, held-run, held-passed}
use Rattle.fresh.proofs.run_held.Goals as goal
use Rattle.fresh.proofs.run_held.Goals.{then-stands, else-stands}

pub loop-place-init : goal.loop-place-init
loop-place-init c = held_none _ _ _ _

pub loop-place-preserved : goal.loop-place-preserved
loop-place-preserved c =
    let k = c.loop-place.place-index in
    let place = get_or-take c.args.count c.args.order.now k 0 (omega (arith, length-take c.args.count c.args.order.now)) in
    elim c.if-stands.branch [
      | then-stands w ↦ w.values-is ∙ held-run _ _ _ _ k c.loop-place.invariant place w.if-stands.true (rw used-part at w.apply.ensures)
      | else-stands w ↦ w.values-is ∙ held-passed _ _ _ _ k c.loop-place.invariant place w.if-stands.false
    ]
