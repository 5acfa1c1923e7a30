-- `turns_on_tables::store_flags`: the numbers that the loop has passed are stored.
use Rattle.std.proofs.Common.{◌≡◌, map}
use Rattle.std.proofs.Math.Seq.{paste}
use Rattle.turns_on_tables.specs.Arrays.{says_known}
use Rattle.turns_on_tables.proofs.store_flags.Given as goal

abbrev pub invariant-loop-i : goal.invariant-loop-i
invariant-loop-i l = map says_known l.known ≡ paste (map says_known l.fn.known) 0 l.flags l.i
