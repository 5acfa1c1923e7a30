-- `turns_on_tables::known_flags`: the flags that the loop has passed are set.
use Rattle.std.proofs.Common.{◌≡◌, false, map, replicate}
use Rattle.std.proofs.Math.Seq.{paste}
use Rattle.turns_on_tables.specs.Arrays.{says_known}
use Rattle.turns_on_tables.proofs.known_flags.Given as goal

abbrev pub invariant-loop-i : goal.invariant-loop-i
invariant-loop-i l = l.flags ≡ paste (replicate 1024 false) 0 (map says_known l.known) l.i
