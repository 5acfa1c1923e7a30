-- After so many iterations the writes of as many changes are carried.
use Rattle.values.specs.Values.{lists_of}
use Rattle.carrying.specs.Carrying.{CarriedBelow}
use Rattle.carrying.proofs.carry_below.Given as goal

abbrev pub invariant-loop-place : goal.invariant-loop-place
invariant-loop-place l = CarriedBelow l.place-index (lists_of l.history) l.initial.values l.values
