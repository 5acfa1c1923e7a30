-- The part of the table that is lent is the program of the place.
use Rattle.execution.proofs.Parts.{program-part, program_runs, run_of}
use Rattle.execution.proofs.run_change.Goals as goal

pub run_at-requires : goal.run_at-requires
run_at-requires c =
    let p = program_runs c.requires.0 in
    (p.0, p.1, c.requires.1)

pub returns : goal.returns
returns c = (run_of _ _ (program-part c.requires.0) c.run_at.ensures.0, c.run_at.ensures.1)
