use Rattle.compaction.proofs.Moves.{ClosedUp}
use Rattle.compaction.proofs.close.Given as goal

abbrev pub invariant-loop-j : goal.invariant-loop-j
invariant-loop-j g l = ClosedUp l.width l.places l.j l.fn.table l.table
