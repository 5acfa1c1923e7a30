-- `words::shift_right` meets its contract: the machine's shift rounds down.
use Rattle.words.proofs.Laws.{shift-rounds-down}
use Rattle.words.proofs.shift_right.Goals as goal

pub returns : goal.returns
returns c = shift-rounds-down _ c.ranges.a
