-- From the place of the record on, the definition runs as on the whole.
use Rattle.std.proofs.Common.{◌-◌}
use Rattle.machine.specs.Instruction.{code}
use Rattle.interpreter.proofs.Loop.{Reached}
use Rattle.values.specs.Values.{lists_of, values_as_of, Looked}
use Rattle.runs.proofs.run_at.Given as goal

abbrev pub invariant-loop-run : goal.invariant-loop-run
invariant-loop-run l =
    let env = values_as_of (lists_of l.history) l.k in
    Reached env (code l.version l.program) l.run l.lists × Looked env l.initial.values l.values

abbrev pub decreases-loop-run : goal.decreases-loop-run
decreases-loop-run l = l.count - l.run.place
