-- The fault of the tables is the refusal, where they have one.
use Rattle.std.proofs.lemmas.Result.{err_from_is_err_and}
use Rattle.cutoff_tests.proofs.Refused.{of-fault}
use Rattle.cutoff_tests.proofs.refusal_of.Goals as goal

pub returns-in_err-fault : goal.returns-in_err-fault
returns-in_err-fault c =
    let p = err_from_is_err_and c.from_residual.result c.from_residual.ensures.1 in
    rw (p.1, p.2, c.in_err-fault.was) (of-fault _ _ _ _ _ _ _)
