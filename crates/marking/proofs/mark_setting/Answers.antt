-- The walk ends behind a writer, or goes on to the next change.
use Rattle.std.proofs.Common.{◌≡◌, ◌∙◌, arith, sym}
use Rattle.marking.proofs.Steps.{walked-last, walked_next, walked_end}
use Rattle.marking.proofs.mark_setting.Goals as goal

pub returns-then-writer : goal.returns-then-writer
returns-then-writer c = walked-last c.loop-p.invariant c.loop-p-test.true c.mark_place-writer.ensures c.if-writer.true

pub loop-p-preserved : goal.loop-p-preserved
loop-p-preserved c = walked_next c.loop-p.invariant c.loop-p-test.true c.mark_place-writer.ensures c.if-writer.false

pub returns : goal.returns
returns c =
    let e : c.loop-p.p ≡ c.args.to = omega arith in
    let h = walked_end c.loop-p.invariant c.loop-p-test.false in
    (h.0, sym e ∙ h.1)
