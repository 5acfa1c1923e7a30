use Rattle.std.proofs.Common.{◌*◌, ◌≤◌, take}
use Rattle.model.specs.Tables.{pad}
use Rattle.storing.proofs.Stores.{Pasted}
use Rattle.storing.proofs.put_slots.Given as goal

abbrev pub invariant-loop-j : goal.invariant-loop-j
invariant-loop-j g l = Pasted l.fn.slots (32 * l.place) (pad 32 g.T.Slot.ZERO (take l.count l.list)) l.j l.slots

abbrev pub invariant-loop-j-2 : goal.invariant-loop-j-2
invariant-loop-j-2 g l = (l.j ≤ 32) × Pasted l.fn.slots (32 * l.place) (pad 32 g.T.Slot.ZERO (take l.count l.list)) l.j l.slots
