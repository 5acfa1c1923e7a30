-- The number of what `take_in_package` answers, and the tables and answer bytes that it leaves.
use Rattle.answer_numbers.specs.Numbers.{package_numbers}
use Rattle.answer_numbers.proofs.Numbers.{same_number, same_answer, of-call}
use Rattle.export_intake.proofs.tolbezun_take_in_package.Goals as goal

pub returns : goal.returns
returns c = of-call package_numbers (same_answer (same_number c.done_number.ensures)) c.take_in_package.ensures
