-- What is left of the list is stored after what has been.
use Rattle.std.proofs.Common.{◌≡◌, drop}
use Rattle.uses.specs.Uses.{numbered}
use Rattle.uses.proofs.note_list.Given as goal

abbrev pub invariant-loop-s : goal.invariant-loop-s
invariant-loop-s l = numbered (drop l.s-index l.settings) l.number l.numbers ≡ numbered l.settings l.number l.initial.numbers
