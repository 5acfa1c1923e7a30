-- After so many iterations the settings passed are known.
use Rattle.values.specs.Values.{lists_of, values_as_of}
use Rattle.values.proofs.Known.{KnownTo}
use Rattle.values.proofs.KnownValues.know_list.Given as goal

abbrev pub invariant-loop-s : goal.invariant-loop-s
invariant-loop-s l = KnownTo l.settings l.s-index (values_as_of (lists_of l.history) l.k) l.initial.self l.self
