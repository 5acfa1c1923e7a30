use Rattle.std.proofs.Common.{◌-◌}
use Rattle.machine.specs.Settings.{value_in}
use Rattle.machine.specs.Instruction.{code}
use Rattle.interpreter.proofs.Loop.{Reached}
use Rattle.interpreter.proofs.run.run_program.Given as goal

abbrev pub invariant-loop-run : goal.invariant-loop-run
invariant-loop-run l = Reached (value_in l.values) (code l.version l.program) l.run l.lists

abbrev pub decreases-loop-run : goal.decreases-loop-run
decreases-loop-run l = l.count - l.run.place
