-- Refused for the tables, or what a single turn makes of tables in form.
use Rattle.std.proofs.Common.{refl}
use Rattle.std.proofs.lemmas.Result.{err_from_is_err_and}
use Rattle.model.specs.Tables.{tables}
use Rattle.model.proofs.Answered.{refused-not-0}
use Rattle.model.proofs.Form.{facts}
use Rattle.tables.proofs.Faults.{faultless}
use Rattle.checker.proofs.Outcomes.{turn-fault, formed, turn-done}
use Rattle.checker.proofs.turn.Goals as goal

pub returns-in_err-fault : goal.returns-in_err-fault
returns-in_err-fault c =
    let p = err_from_is_err_and c.from_residual.result c.from_residual.ensures.1 in
    rw (p.1, p.2) (turn-fault _ _ c.in_err-fault.ensures (refused-not-0 _))

pub held_count-count-requires : goal.held_count-count-requires
held_count-count-requires c = (facts (faultless _ _ c.in_ok-fault.ensures refl)).sizes.held

pub turn_once-requires : goal.turn_once-requires
turn_once-requires c =
    let T = tables c.args.held.now c.args.timestamps.now c.args.order.now c.args.status.now c.args.withdrawn.now c.args.lengths.now c.args.programs.now c.args.reads.now c.args.writes.now c.args.sources.now c.args.seen.now c.args.targets.now c.args.written.now c.args.view.now c.args.versions.now c.args.cutoff.now c.args.kept.now in
    record { others = T; so = formed _ T (faultless _ _ c.in_ok-fault.ensures refl) c.held_count-count.ensures }

pub returns : goal.returns
returns c =
    let T = tables c.args.held.now c.args.timestamps.now c.args.order.now c.args.status.now c.args.withdrawn.now c.args.lengths.now c.args.programs.now c.args.reads.now c.args.writes.now c.args.sources.now c.args.seen.now c.args.targets.now c.args.written.now c.args.view.now c.args.versions.now c.args.cutoff.now c.args.kept.now in
    let g = faultless _ T c.in_ok-fault.ensures refl in
    turn-done _ T g c.held_count-count.ensures (c.turn_once.ensures T (formed _ T g c.held_count-count.ensures)) refl
