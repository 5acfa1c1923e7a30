-- The number of what `take_in` answers, and the tables that it leaves.
use Rattle.model.specs.Calls.{answer_number}
use Rattle.answer_numbers.specs.Numbers.{answering}
use Rattle.answer_numbers.proofs.Numbers.{same_answer, of-call}
use Rattle.export_intake.proofs.tolbezun_take_in.Goals as goal

pub returns : goal.returns
returns c = of-call (answering answer_number) (same_answer c.answer_number.ensures) c.take_in.ensures
