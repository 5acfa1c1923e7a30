-- `start_values::start_table` meets its contract: the table of the code is that of the definitions, number by number. Assumes nothing.
use Rattle.std.proofs.Common.{refl}
use Rattle.start_values.specs.StartValues.{start_table}
use Rattle.start_values.proofs.start_table.Goals as goal

pub returns : goal.returns
unfolding start_table
returns c = refl
