-- Refused for the tables, or the answer on tables in form.
use Rattle.std.proofs.Common.{refl, ◌∙◌}
use Rattle.std.proofs.lemmas.Result.{err_from_is_err_and}
use Rattle.model.proofs.Answered.{refused-not-0}
use Rattle.model.proofs.Form.{facts}
use Rattle.tables.proofs.Faults.{faultless}
use Rattle.queries.proofs.Outcomes.{current-fault, current-formed}
use Rattle.queries.proofs.current_value.Goals as goal

pub returns-in_err-fault : goal.returns-in_err-fault
returns-in_err-fault c =
    let p = err_from_is_err_and c.from_residual.result c.from_residual.ensures.1 in
    rw (p.1, p.2) (current-fault _ _ _ c.in_err-fault.ensures (refused-not-0 _))

pub setting_value-requires : goal.setting_value-requires
setting_value-requires c = (facts (faultless _ _ c.in_ok-fault.ensures refl)).sizes.view

pub returns : goal.returns
returns c = c.setting_value.ensures ∙ current-formed _ _ _ (faultless _ _ c.in_ok-fault.ensures refl)
