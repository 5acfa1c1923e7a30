-- `bytecode::program::instruction_at` meets its contract: the code reads what the definition says.
use Rattle.std.proofs.Common.{◌≡◌, rules, w32, to_z, of_z}
use Rattle.machine.specs.Instruction.{instruction_at}
use Rattle.bytecode.proofs.program.instruction_at.Goals as goal

pub returns : goal.returns
unfolding instruction_at
returns c =
    let read_back : to_z w32 (of_z w32 c.number-n.result) ≡ c.number-n.result = search rules in
    rw (read_back, c.number-n.ensures, c.word_at.ensures)
