-- `instruction_effects::result` meets its contract: the shift of operation 6 is that of the table.
use Rattle.std.proofs.Common.{to_z-of_z}
use borrow.Author.Rules.{sfits_of}
use Rattle.machine.specs.Run.{shift_right}
use Rattle.instruction_effects.proofs.result.Goals as goal

pub returns-in-6 : goal.returns-in-6
unfolding shift_right
returns-in-6 c =
    rw (to_z-of_z (sfits_of c.shift_right.type_inv), c.shift_right.ensures, to_z-of_z c.ranges.x, to_z-of_z c.ranges.n, c.in-6.is)
