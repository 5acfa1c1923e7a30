-- After k turns of `carrying::carry_first` the writes of the first k changes are carried.
use Rattle.std.proofs.Common.{◌≡◌}
use Rattle.model.specs.Tables.{list_in}
use Rattle.carrying.specs.Carrying.{carried_first}
use Rattle.carrying.proofs.carry_first.Given as goal

abbrev pub invariant-loop-place : goal.invariant-loop-place
invariant-loop-place l = l.values ≡ carried_first (list_in l.writes l.targets l.written) l.order l.initial.values l.place-index
