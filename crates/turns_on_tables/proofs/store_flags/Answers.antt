-- One number more is stored.
use Rattle.std.proofs.Common.{arith}
use Rattle.turns_on_tables.proofs.Arrays.{numbers-next}
use Rattle.turns_on_tables.proofs.store_flags.Goals as goal

pub loop-i-preserved : goal.loop-i-preserved
loop-i-preserved c = numbers-next c.args.known.now c.loop-i.known c.args.flags.now c.loop-i.i _ (omega arith) (omega arith) (omega arith) c.loop-i.invariant c.number_for.ensures.said
