-- The table has every start value.
use Rattle.std.proofs.Common.{sym, ◌∙◌}
use Rattle.model.proofs.Start.{all_start}
use Rattle.fresh.proofs.fill_start.Goals as goal

pub returns : goal.returns
returns c = c.fill_from.ensures ∙ c.start_table.ensures ∙ sym all_start
