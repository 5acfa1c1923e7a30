-- Refused for the tables, or what is put of tables in form.
use Rattle.std.proofs.Common.{refl, ◌∙◌}
use Rattle.std.proofs.lemmas.Result.{err_from_is_err_and}
use Rattle.model.proofs.Answered.{refused-not-0}
use Rattle.model.proofs.Form.{facts}
use Rattle.packing.proofs.Model.{held-parts}
use Rattle.tables.proofs.Faults.{faultless}
use Rattle.package_out.proofs.Outcomes.{out-fault, out-formed}
use Rattle.package_out.proofs.package_out.Goals as goal

pub returns-in_err-fault : goal.returns-in_err-fault
returns-in_err-fault c =
    let p = err_from_is_err_and c.from_residual.result c.from_residual.ensures.1 in
    rw (p.1, p.2) (out-fault _ _ _ c.in_err-fault.ensures (refused-not-0 _))

pub held_count-count-requires : goal.held_count-count-requires
held_count-count-requires c = (facts (faultless _ _ c.in_ok-fault.ensures refl)).sizes.held

pub put_package-requires : goal.put_package-requires
put_package-requires c = held-parts (faultless _ _ c.in_ok-fault.ensures refl) c.held_count-count.ensures

pub returns : goal.returns
returns c = c.put_package.ensures ∙ out-formed _ _ _ (faultless _ _ c.in_ok-fault.ensures refl) c.held_count-count.ensures
