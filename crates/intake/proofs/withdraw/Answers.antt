-- Refused by the tables, or what the item does on them.
use Rattle.std.proofs.Common.{refl}
use Rattle.std.proofs.lemmas.Result.{err_from_is_err_and}
use Rattle.model.specs.Tables.{tables}
use Rattle.model.specs.Package.{withdrawing}
use Rattle.model.specs.Calls.{withdraw}
use Rattle.model.proofs.Answered.{refused-not-0}
use Rattle.tables.proofs.Faults.{faultless}
use Rattle.intake.proofs.Outcomes.{item-fault}
use Rattle.intake.proofs.withdraw.Goals as goal

pub returns-in_err-fault : goal.returns-in_err-fault
unfolding withdraw
returns-in_err-fault c =
    let p = err_from_is_err_and c.from_residual.result c.from_residual.ensures.1 in
    rw (p.1, p.2) (item-fault _ _ (withdrawing c.args.timestamp) c.in_err-fault.ensures (refused-not-0 _))

pub withdraw_item-requires : goal.withdraw_item-requires
withdraw_item-requires c =
    let a = c.args in
    let lent = tables a.held.now a.timestamps.now a.order.now a.status.now a.withdrawn.now a.lengths.now a.programs.now a.reads.now a.writes.now a.sources.now a.seen.now a.targets.now a.written.now a.view.now a.versions.now a.cutoff.now a.kept.now in
    record { capacity = a.n; others = lent; formed = faultless a.n lent c.in_ok-fault.ensures refl }

pub returns : goal.returns
unfolding withdraw
returns c =
    let a = c.args in
    let lent = tables a.held.now a.timestamps.now a.order.now a.status.now a.withdrawn.now a.lengths.now a.programs.now a.reads.now a.writes.now a.sources.now a.seen.now a.targets.now a.written.now a.view.now a.versions.now a.cutoff.now a.kept.now in
    c.withdraw_item.ensures.answered lent (faultless a.n lent c.in_ok-fault.ensures refl)
