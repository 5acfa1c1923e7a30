use Rattle.compaction.proofs.Places.{Looked}
use Rattle.compaction.proofs.find_remaining.Given as goal

abbrev pub invariant-loop-i : goal.invariant-loop-i
invariant-loop-i l = Looked l.t l.timestamps l.i l.found l.places l.numbers
