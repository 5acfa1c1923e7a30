-- The number of what `raise_cutoff` answers, and the tables that it leaves.
use Rattle.model.specs.Calls.{answer_number}
use Rattle.answer_numbers.specs.Numbers.{answering}
use Rattle.answer_numbers.proofs.Numbers.{same_answer, of-call}
use Rattle.export_cutoff.proofs.tolbezun_cutoff.Goals as goal

pub returns : goal.returns
returns c = of-call (answering answer_number) (same_answer c.done_number.ensures) c.raise_cutoff.ensures
