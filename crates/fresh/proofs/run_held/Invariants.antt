-- After k turns of `fresh::run_held` the first k changes of the order list are run.
use Rattle.std.proofs.Common.{◌≡◌}
use Rattle.model.specs.Tables.{code_in}
use Rattle.fresh.specs.HeldRuns.{held_run}
use Rattle.fresh.proofs.run_held.Given as goal

abbrev pub invariant-loop-place : goal.invariant-loop-place
invariant-loop-place l = l.values ≡ held_run l.order l.withdrawn (code_in l.lengths l.programs l.versions) l.initial.values l.place-index
