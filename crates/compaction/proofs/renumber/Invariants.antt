use Rattle.std.proofs.Common.{map, get_or, drop}
use Rattle.compaction.proofs.Moves.{Copied}
use Rattle.compaction.proofs.renumber.Given as goal

abbrev pub invariant-loop-j : goal.invariant-loop-j
invariant-loop-j l = Copied l.fn.order 0 (map (λ i. get_or l.numbers i 0) (drop l.first l.fn.order)) l.j l.order
