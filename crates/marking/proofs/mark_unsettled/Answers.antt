-- Where there is no walk, a walk would mark nothing.
use Rattle.std.proofs.Common.{arith, refl}
use Rattle.marking.proofs.Settling.{no_reader, settled-already, end_below, walk-settles}
use Rattle.marking.proofs.mark_unsettled.Goals as goal

pub overflow_cast-uses : goal.overflow_cast-uses
overflow_cast-uses c =
    let w = c.wide-to.ensures in
    let below = end_below c.requires.1.settled-to c.args.s c.requires.0 (omega (arith, c.if-from-to.true, w.0)) (rw w.0 at c.mark_setting-end.ensures) in
    omega (arith, below, w.0, w.1)

pub returns-then-unsettled : goal.returns-then-unsettled
returns-then-unsettled c =
    let w = walk-settles c.requires.1.settled-to c.args.s c.requires.0 (omega (arith, c.if-from-to.true, c.wide-to.ensures.0)) (rw c.wide-to.ensures.0 at c.mark_setting-end.ensures) in
    (w.0, record { readers = refl; writers = refl; settled-to = w.1 })

pub returns-else-unsettled : goal.returns-else-unsettled
returns-else-unsettled c =
    let m = c.requires.1.settled-to in
    (settled-already m c.args.s c.requires.0 (omega (arith, c.if-unsettled.false, c.wide-done.ensures.0)), record { readers = refl; writers = refl; settled-to = m })

pub returns-else-from-to : goal.returns-else-from-to
returns-else-from-to c =
    let m = c.requires.1.settled-to in
    (no_reader m c.args.s c.requires.0 (omega (arith, c.if-from-to.false, c.wide-to.ensures.0)), record { readers = refl; writers = refl; settled-to = m })
