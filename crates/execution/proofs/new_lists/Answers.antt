-- The run's lists where the change runs, and none else.
use Rattle.std.proofs.Common.{ap}
use Rattle.run_record.specs.declared.Run.{Run}
use Rattle.values.proofs.Known.{looked-none}
use Rattle.execution.proofs.Steps.{made-ran, made_none}
use Rattle.execution.proofs.new_lists.Goals as goal

pub returns-in-Run : goal.returns-in-Run
returns-in-Run c = (made-ran c.in-Run.is c.run_change.ensures.0, c.run_change.ensures.1)

pub returns-in-Clear : goal.returns-in-Clear
returns-in-Clear c =
    (made_none c.in-Clear.is (ap (λ (r : Run). r.reads) c.new.ensures) (ap (λ (r : Run). r.writes) c.new.ensures), looked-none c.requires.1.right)
