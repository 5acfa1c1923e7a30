-- Refused for the number of totals or the tables, or what all turns make of tables in form.
use Rattle.std.proofs.Common.{refl, ap, ◌∙◌, ℕ, replicate}
use Rattle.std.proofs.lemmas.Result.{err_from_is_err_and}
use Rattle.model.specs.Tables.{tables}
use Rattle.model.proofs.Answered.{refused-not-0}
use Rattle.model.proofs.Form.{facts}
use Rattle.tables.proofs.Faults.{faultless}
use Rattle.checker.proofs.Outcomes.{drain-wrong-length, drain-fault, formed, drain-done}
use Rattle.checker.proofs.drain.Goals as goal

pub returns-then-totals-ne1024 : goal.returns-then-totals-ne1024
returns-then-totals-ne1024 c = drain-wrong-length _ _ _ c.if-totals-ne1024.true

pub returns-in_err-fault : goal.returns-in_err-fault
returns-in_err-fault c =
    let p = err_from_is_err_and c.from_residual.result c.from_residual.ensures.1 in
    rw (p.1, p.2) (drain-fault _ _ _ c.if-totals-ne1024.false c.in_err-fault.ensures (refused-not-0 _))

pub held_count-count-requires : goal.held_count-count-requires
held_count-count-requires c = (facts (faultless _ _ c.in_ok-fault.ensures refl)).sizes.held

pub turn_all-requires : goal.turn_all-requires
turn_all-requires c =
    let T = tables c.args.held.now c.args.timestamps.now c.args.order.now c.args.status.now c.args.withdrawn.now c.args.lengths.now c.args.programs.now c.args.reads.now c.args.writes.now c.args.sources.now c.args.seen.now c.args.targets.now c.args.written.now c.args.view.now c.args.versions.now c.args.cutoff.now c.args.kept.now in (
      record { others = T; so = formed _ T (faultless _ _ c.in_ok-fault.ensures refl) c.held_count-count.ensures },
      c.clear.ensures ∙ ap (λ (n : ℕ). replicate n 0) c.if-totals-ne1024.false,
    )

pub returns : goal.returns
returns c =
    let T = tables c.args.held.now c.args.timestamps.now c.args.order.now c.args.status.now c.args.withdrawn.now c.args.lengths.now c.args.programs.now c.args.reads.now c.args.writes.now c.args.sources.now c.args.seen.now c.args.targets.now c.args.written.now c.args.view.now c.args.versions.now c.args.cutoff.now c.args.kept.now in
    let g = faultless _ T c.in_ok-fault.ensures refl in
    drain-done _ T g c.held_count-count.ensures _ c.if-totals-ne1024.false (c.turn_all.ensures T (formed _ T g c.held_count-count.ensures)) refl
