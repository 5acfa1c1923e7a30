use Rattle.std.proofs.Common.{◌≡◌, ◌+◌, true}
use Rattle.general.specs.Lists.{all_below}
use Rattle.model.specs.Form.{list_fits}
use Rattle.form_lists.specs.Marks.{MarkedBelow}
use Rattle.form_lists.proofs.lists_fit.Given as goal

abbrev pub invariant-loop-i : goal.invariant-loop-i
invariant-loop-i l = (all_below l.i (list_fits l.counts l.settings l.values) ≡ true) × MarkedBelow (l.i + 1) l.marks
