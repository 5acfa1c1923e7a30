use Rattle.std.proofs.lemmas.Result.{err_from_is_err_and}
use Rattle.intake_anew.proofs.Calls.{refused-anew}
use Rattle.intake_anew.proofs.take_in_anew.Goals as goal

pub returns-in_err-set_up : goal.returns-in_err-set_up
returns-in_err-set_up c =
    let p = err_from_is_err_and c.from_residual.result c.from_residual.ensures.1 in
    rw (p.1, p.2) (refused-anew _ _ c.args.bytes.now c.args.answers.now c.in_err-set_up.ensures)
