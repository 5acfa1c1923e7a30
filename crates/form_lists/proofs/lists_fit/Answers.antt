-- `form_lists::lists_fit` meets its contract: every place passed has a list that fits, and no mark is above the last row's number. Assumes nothing.
use Rattle.std.proofs.Common.{refl, sym, ◌∙◌, arith}
use Rattle.general.specs.Lists.{all_below}
use Rattle.general.proofs.Checks.{all-below-next}
use Rattle.machine.proofs.Form.{not_all_below}
use Rattle.form_lists.proofs.Marks.{no-marks, marked-later}
use Rattle.form_lists.proofs.lists_fit.Goals as goal

pub loop-i-init : goal.loop-i-init
unfolding all_below
loop-i-init c = (refl, no-marks)

pub returns-then-not-list_fits : goal.returns-then-not-list_fits
returns-then-not-list_fits c = sym (not_all_below _ _ _ c.loop-i-test.true (sym c.list_fits.ensures.0 ∙ c.if-not-list_fits.true))

pub loop-i-preserved : goal.loop-i-preserved
loop-i-preserved c =
    let f = c.list_fits.ensures in
    (all-below-next _ _ c.loop-i.invariant.0 (sym f.0 ∙ c.if-not-list_fits.false), marked-later (omega arith) f.1)
