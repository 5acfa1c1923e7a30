-- The number of what `plain_run` answers, and the settings that it leaves.
use Rattle.answer_numbers.specs.Numbers.{plain_numbers}
use Rattle.answer_numbers.proofs.Numbers.{same_number, of-call}
use Rattle.export_queries.proofs.tolbezun_plain_run.Goals as goal

pub returns : goal.returns
returns c = of-call plain_numbers (same_number c.done_number.ensures) c.plain_run.ensures
