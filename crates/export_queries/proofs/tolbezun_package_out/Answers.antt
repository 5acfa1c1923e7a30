-- The number of what `package_out` answers, and the bytes that it leaves.
use Rattle.answer_numbers.specs.Numbers.{packed_numbers}
use Rattle.answer_numbers.proofs.Numbers.{same_number, of-call}
use Rattle.export_queries.proofs.tolbezun_package_out.Goals as goal

pub returns : goal.returns
returns c = of-call packed_numbers (same_number c.packed_number.ensures) c.package_out.ensures
