-- One setting more is marked.
use Rattle.std.proofs.Common.{refl}
use Rattle.marking.proofs.Settling.{markable-again, marked_next, marked-end}
use Rattle.marking.proofs.mark_settings.Goals as goal

pub loop-s-init : goal.loop-s-init
loop-s-init c = record { long = refl; marks = refl; marked = record { readers = refl; writers = refl; settled-to = c.requires.2.settled-to } }

pub mark_unsettled-requires : goal.mark_unsettled-requires
mark_unsettled-requires c = (c.requires.1.below c.loop-s.s-index c.loop-s-test.true, markable-again c.loop-s.invariant c.requires.2)

pub loop-s-preserved : goal.loop-s-preserved
loop-s-preserved c = marked_next c.loop-s.invariant c.loop-s-test.true c.mark_unsettled.ensures

pub returns : goal.returns
returns c = marked-end c.loop-s.invariant c.loop-s-test.false
