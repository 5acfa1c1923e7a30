-- `search_exports::tolbezun_previous_writes`: the first i answers are stored.
use Rattle.std.proofs.Common.{pos}
use Rattle.general.proofs.Filled.{Filled}
use Rattle.search_exports.proofs.Reports.{found_at}
use Rattle.search_exports.proofs.tolbezun_previous_writes.Given as goal

abbrev pub invariant-loop-i : goal.invariant-loop-i
invariant-loop-i l = Filled (found_at l.settings l.position l.order l.writes l.targets l.written l.initial.answers) (pos 0) l.i l.initial.answers l.answers
