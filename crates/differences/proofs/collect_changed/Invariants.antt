-- What the rest of the settings add is what is left to collect for `differences::collect_changed`.
use Rattle.differences.proofs.Changed.{Collecting}
use Rattle.differences.proofs.collect_changed.Given as goal

abbrev pub invariant-loop-s : goal.invariant-loop-s
invariant-loop-s l = Collecting l.settings l.before l.after l.count l.initial.changed l.total l.changed l.s-index
