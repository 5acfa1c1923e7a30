-- Refused for the tables, or the answer on tables in form.
use Rattle.std.proofs.Common.{refl, ◌∙◌, arith}
use Rattle.std.proofs.lemmas.Result.{err_from_is_err_and}
use Rattle.model.proofs.Answered.{refused-not-0}
use Rattle.model.proofs.Form.{facts}
use Rattle.tables.specs.Lent.{shown}
use Rattle.tables.proofs.Faults.{faultless}
use Rattle.queries.proofs.Outcomes.{as-of-fault, as-of-asks, as-of-formed}
use Rattle.queries.proofs.value_as_of.Goals as goal

pub returns-in_err-fault : goal.returns-in_err-fault
returns-in_err-fault c =
    let p = err_from_is_err_and c.from_residual.result c.from_residual.ensures.1 in
    rw (p.1, p.2) (as-of-fault _ _ _ _ c.in_err-fault.ensures (refused-not-0 _))

pub held_count-count-requires : goal.held_count-count-requires
held_count-count-requires c = (facts (faultless _ _ c.in_ok-fault.ensures refl)).sizes.held

pub bounds-tables-0 : goal.bounds-tables-0
bounds-tables-0 c =
    omega (arith, (facts (faultless c.args.n (shown c.args.tables.now) c.in_ok-fault.ensures refl)).sizes.cutoff)

pub value_at-requires : goal.value_at-requires
value_at-requires c = as-of-asks (faultless _ _ c.in_ok-fault.ensures refl) c.held_count-count.ensures

pub returns : goal.returns
returns c = c.value_at.ensures ∙ as-of-formed _ _ _ _ (faultless _ _ c.in_ok-fault.ensures refl) c.held_count-count.ensures
