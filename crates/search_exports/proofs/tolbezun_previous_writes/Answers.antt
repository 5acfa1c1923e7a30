-- `search_exports::tolbezun_previous_writes`: the tables can be searched, and each answer is stored.
use Rattle.std.proofs.Common.{arith}
use Rattle.general.proofs.Filled.{fill-last}
use Rattle.search_exports.proofs.Refusals.{searchable}
use Rattle.search_exports.proofs.Reports.{searched}
use Rattle.search_exports.proofs.tolbezun_previous_writes.Goals as goal

pub previous_write-found-requires : goal.previous_write-found-requires
previous_write-found-requires c = searchable _ _ _ _ _ c.table_refusal-refusal.ensures c.if-refusal-ne0.false

pub returns : goal.returns
returns c = searched _ _ _ _ _ _ _ c.if-settings-answers.false c.table_refusal-refusal.ensures c.if-refusal-ne0.false (fill-last (omega arith) c.loop-i.invariant)
