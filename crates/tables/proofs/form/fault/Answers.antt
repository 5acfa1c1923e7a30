-- The lengths are tested first, and then the form.
use Rattle.std.proofs.Common.{refl, sym, ◌∙◌}
use Rattle.tables.proofs.Checks.{over-capacity, form-tested, form-wrong, none-wrong}
use Rattle.tables.proofs.form.fault.Goals as goal

pub returns-then-n-count : goal.returns-then-n-count
returns-then-n-count c = form-wrong _ _ (sym c.if-not-lengths_fit.ensures) (over-capacity _ _ c.held_count-count.ensures c.if-n-count.true)

pub returns-then-fits : goal.returns-then-fits
returns-then-fits c =
    let tested = form-tested _ _ c.held_count-count.ensures c.if-n-count.false c.heads_fit.ensures c.order_fits.ensures c.programs_fit.ensures c.lists_fit.ensures c.lists_fit-2.ensures c.unused_fits.ensures refl c.none_below.ensures in
    none-wrong _ _ (sym c.if-not-lengths_fit.ensures) (sym tested ∙ c.if-fits.true)

pub returns-else-fits : goal.returns-else-fits
returns-else-fits c =
    let tested = form-tested _ _ c.held_count-count.ensures c.if-n-count.false c.heads_fit.ensures c.order_fits.ensures c.programs_fit.ensures c.lists_fit.ensures c.lists_fit-2.ensures c.unused_fits.ensures refl c.none_below.ensures in
    form-wrong _ _ (sym c.if-not-lengths_fit.ensures) (sym tested ∙ c.if-fits.false)
