-- Refused by a test, or every entry carried out.
use Rattle.std.proofs.Common.{refl, sym, ◌∙◌}
use Rattle.std.proofs.lemmas.Result.{err_from_is_err_and}
use Rattle.model.specs.Tables.{tables}
use Rattle.model.proofs.Answered.{refused-not-0}
use Rattle.tables.proofs.Faults.{faultless}
use Rattle.package_intake.proofs.Outcomes.{package-wrong-length, package-fault, package-not-laid-out}
use Rattle.package_intake.proofs.take_in_package.Goals as goal

pub returns-then-answers-ne512 : goal.returns-then-answers-ne512
returns-then-answers-ne512 c = package-wrong-length _ _ _ _ c.if-answers-ne512.true

pub returns-in_err-fault : goal.returns-in_err-fault
returns-in_err-fault c =
    let p = err_from_is_err_and c.from_residual.result c.from_residual.ensures.1 in
    rw (p.1, p.2) (package-fault _ _ _ _ c.if-answers-ne512.false c.in_err-fault.ensures (refused-not-0 _))

pub returns-then-not-laid_out : goal.returns-then-not-laid_out
returns-then-not-laid_out c =
    package-not-laid-out _ _ _ _ c.if-answers-ne512.false (faultless _ _ c.in_ok-fault.ensures refl) (sym c.layout_fits-laid_out.ensures ∙ c.if-not-laid_out.true)

pub take_entries-requires : goal.take_entries-requires
take_entries-requires c =
    let a = c.args in
    let lent = tables a.held.now a.timestamps.now a.order.now a.status.now a.withdrawn.now a.lengths.now a.programs.now a.reads.now a.writes.now a.sources.now a.seen.now a.targets.now a.written.now a.view.now a.versions.now a.cutoff.now a.kept.now in
    record {
      laid_out = sym c.layout_fits-laid_out.ensures ∙ c.if-not-laid_out.false;
      sized = c.if-answers-ne512.false;
      formed = record { capacity = a.n; others = lent; formed = faultless a.n lent c.in_ok-fault.ensures refl };
    }

pub returns : goal.returns
returns c =
    let a = c.args in
    let lent = tables a.held.now a.timestamps.now a.order.now a.status.now a.withdrawn.now a.lengths.now a.programs.now a.reads.now a.writes.now a.sources.now a.seen.now a.targets.now a.written.now a.view.now a.versions.now a.cutoff.now a.kept.now in
    c.take_entries.ensures.taken lent (faultless a.n lent c.in_ok-fault.ensures refl)
