-- After n turns of `write_lists::carry` the first n entries are carried.
use Rattle.std.proofs.Common.{◌≡◌, length}
use Rattle.machine.specs.Settings.{entries, carry}
use Rattle.write_lists.proofs.carry.Given as goal

abbrev pub invariant-loop-s : goal.invariant-loop-s
invariant-loop-s l = l.into ≡ carry (entries (length l.yielded) l.settings l.values) l.initial.into
