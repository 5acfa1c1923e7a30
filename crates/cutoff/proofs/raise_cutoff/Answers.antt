-- Refused with the tables as they were; else what the parts leave.
use Rattle.std.proofs.Common.{refl}
use Rattle.std.proofs.lemmas.Result.{err_from_is_err_and}
use Rattle.model.proofs.Answered.{refused-not-0}
use Rattle.dropping.proofs.Model.{droppable, columns-closable, blocks-closable, tables-cut}
use Rattle.cutoff.proofs.Outcomes.{cutoff-refused, cutoff-done}
use Rattle.cutoff.proofs.raise_cutoff.Goals as goal

pub returns-in_err-cutoff_refusal : goal.returns-in_err-cutoff_refusal
returns-in_err-cutoff_refusal c =
    let p = err_from_is_err_and c.from_residual.result c.from_residual.ensures.1 in
    rw (p.1, p.2) (cutoff-refused _ _ _ c.in_err-cutoff_refusal.ensures (refused-not-0 _))

pub drop_changes-found-requires : goal.drop_changes-found-requires
drop_changes-found-requires c = (droppable (c.in_ok-cutoff_refusal.ensures.formed refl) c.args.timestamp, refl)

pub close_columns-requires : goal.close_columns-requires
close_columns-requires c = columns-closable (c.in_ok-cutoff_refusal.ensures.formed refl) _ c.drop_changes-found.ensures.remain

pub close_blocks-requires : goal.close_blocks-requires
close_blocks-requires c = blocks-closable (c.in_ok-cutoff_refusal.ensures.formed refl) _ c.drop_changes-found.ensures.remain

pub returns : goal.returns
returns c =
    let q = c.in_ok-cutoff_refusal.ensures in
    cutoff-done _ _ _ q refl (tables-cut (q.formed refl) _ c.drop_changes-found.ensures c.close_columns.ensures c.close_blocks.ensures)
