-- `form_places::programs_fit` meets its contract: every place passed has a program that fits. Assumes nothing.
use Rattle.std.proofs.Common.{refl, sym, ◌∙◌}
use Rattle.general.specs.Lists.{all_below}
use Rattle.general.proofs.Checks.{all-below-next}
use Rattle.machine.proofs.Form.{not_all_below}
use Rattle.form_places.proofs.programs_fit.Goals as goal

pub loop-i-init : goal.loop-i-init
unfolding all_below
loop-i-init c = refl

pub returns-then-not-program_fits : goal.returns-then-not-program_fits
returns-then-not-program_fits c = sym (not_all_below _ _ _ c.loop-i-test.true (sym c.program_fits.ensures ∙ c.if-not-program_fits.true))

pub loop-i-preserved : goal.loop-i-preserved
loop-i-preserved c = all-below-next _ _ c.loop-i.invariant (sym c.program_fits.ensures ∙ c.if-not-program_fits.false)
