-- Refused by the tables, or what the item does on them.
use Rattle.std.proofs.Common.{refl}
use Rattle.std.proofs.lemmas.Result.{err_from_is_err_and}
use Rattle.machine.specs.Instruction.{code}
use Rattle.model.specs.Tables.{tables}
use Rattle.model.specs.Package.{taking}
use Rattle.model.specs.Calls.{take_in}
use Rattle.model.proofs.Answered.{refused-not-0}
use Rattle.tables.proofs.Faults.{faultless}
use Rattle.intake.proofs.Outcomes.{item-fault}
use Rattle.intake.proofs.take_in.Goals as goal

pub returns-in_err-fault : goal.returns-in_err-fault
unfolding take_in
returns-in_err-fault c =
    let p = err_from_is_err_and c.from_residual.result c.from_residual.ensures.1 in
    rw (p.1, p.2) (item-fault _ _ (taking c.args.timestamp (code c.args.version c.args.program.now)) c.in_err-fault.ensures (refused-not-0 _))

pub take_item-requires : goal.take_item-requires
take_item-requires c =
    let a = c.args in
    let lent = tables a.held.now a.timestamps.now a.order.now a.status.now a.withdrawn.now a.lengths.now a.programs.now a.reads.now a.writes.now a.sources.now a.seen.now a.targets.now a.written.now a.view.now a.versions.now a.cutoff.now a.kept.now in
    record { capacity = a.n; others = lent; formed = faultless a.n lent c.in_ok-fault.ensures refl }

pub returns : goal.returns
unfolding take_in
returns c =
    let a = c.args in
    let lent = tables a.held.now a.timestamps.now a.order.now a.status.now a.withdrawn.now a.lengths.now a.programs.now a.reads.now a.writes.now a.sources.now a.seen.now a.targets.now a.written.now a.view.now a.versions.now a.cutoff.now a.kept.now in
    c.take_item.ensures.answered lent (faultless a.n lent c.in_ok-fault.ensures refl)
