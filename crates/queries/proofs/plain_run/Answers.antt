-- Refused for a length or the tables, or what the held changes leave.
use Rattle.std.proofs.Common.{refl, ap, ◌∙◌, arith, List, ℤ}
use Rattle.std.proofs.lemmas.Result.{err_from_is_err_and}
use Rattle.model.proofs.Answered.{refused-not-0}
use Rattle.model.proofs.Form.{facts}
use Rattle.tables.specs.Lent.{shown}
use Rattle.tables.proofs.Faults.{faultless}
use Rattle.model.specs.Tables.{program_at}
use Rattle.fresh.specs.HeldRuns.{held_run}
use Rattle.fresh.proofs.Model.{held-programs}
use Rattle.queries.proofs.Outcomes.{plain-wrong-length, plain-fault, plain_done}
use Rattle.queries.proofs.plain_run.Goals as goal

pub returns-then-settings-ne1024 : goal.returns-then-settings-ne1024
returns-then-settings-ne1024 c = plain-wrong-length _ _ _ c.if-settings-ne1024.true

pub returns-in_err-fault : goal.returns-in_err-fault
returns-in_err-fault c =
    let p = err_from_is_err_and c.from_residual.result c.from_residual.ensures.1 in
    rw (p.1, p.2) (plain-fault _ _ _ c.if-settings-ne1024.false c.in_err-fault.ensures (refused-not-0 _))

pub held_count-count-requires : goal.held_count-count-requires
held_count-count-requires c = (facts (faultless _ _ c.in_ok-fault.ensures refl)).sizes.held

pub fill_from-requires : goal.fill_from-requires
fill_from-requires c = ((facts (faultless _ _ c.in_ok-fault.ensures refl)).sizes.kept, refl)

pub run_held-requires : goal.run_held-requires
run_held-requires c = (held-programs (faultless _ _ c.in_ok-fault.ensures refl) c.held_count-count.ensures, omega (arith, c.fill_from.auto))

pub returns : goal.returns
returns c =
    let T = shown c.args.tables.now in
    plain_done _ T _ c.if-settings-ne1024.false (faultless _ _ c.in_ok-fault.ensures refl) c.held_count-count.ensures
    (c.fill_from-2.ensures ∙ c.run_held.ensures ∙ ap (λ (values : List ℤ). held_run T.order T.withdrawn (program_at T) values c.held_count-count.result) c.fill_from.ensures)
