-- `view_updates::follow_view` meets its contract: a turn stores the value of the next setting, or passes over it. Assumes nothing.
use Rattle.std.proofs.Common.{arith, rules, ◌∙◌}
use Rattle.view_updates.proofs.Steps.{follow-next, follow-kept, follow-end}
use Rattle.view_updates.proofs.follow_view.Goals as goal
use Rattle.view_updates.proofs.follow_view.Goals.{then-wide-from, else-wide-from}

pub loop-s-preserved : goal.loop-s-preserved
loop-s-preserved c =
    let l = c.loop-s in
    let r = c.wide.ensures in
    elim c.if-wide-from.branch [
      | then-wide-from w ↦ follow-next _ _ _ _ l.s-index l.view (omega arith) (omega (arith, w.if-wide-from.true, r)) w.view-is (search rules) ∙ l.invariant
      | else-wide-from w ↦ follow-kept _ _ _ _ l.s-index l.view (omega arith) (omega (arith, w.if-wide-from.false, r)) w.view-is ∙ l.invariant
    ]

pub returns : goal.returns
returns c = follow-end _ _ _ _ c.loop-s.s-index c.loop-s.view (omega arith) ∙ c.loop-s.invariant
