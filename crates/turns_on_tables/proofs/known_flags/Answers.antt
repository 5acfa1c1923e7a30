-- One flag more is set.
use Rattle.std.proofs.Common.{arith}
use Rattle.turns_on_tables.proofs.Arrays.{flags-next}
use Rattle.turns_on_tables.proofs.known_flags.Goals as goal

pub loop-i-preserved : goal.loop-i-preserved
loop-i-preserved c = flags-next c.args.known.now c.loop-i.flags c.loop-i.i (omega arith) (omega arith) c.loop-i.invariant
