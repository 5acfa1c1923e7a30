-- The number of what `drain` answers, and the tables and totals that it leaves.
use Rattle.answer_numbers.specs.Numbers.{totals_numbers}
use Rattle.answer_numbers.proofs.Numbers.{same_number, same_answer, of-call}
use Rattle.export_turns.proofs.tolbezun_drain.Goals as goal

pub returns : goal.returns
returns c = of-call totals_numbers (same_answer (same_number c.done_number.ensures)) c.drain.ensures
