-- `taking::copy_in`: the bytes that the loop has passed are copied.
use Rattle.std.proofs.Common.{◌≡◌}
use Rattle.std.proofs.Math.Seq.{paste}
use Rattle.taking.proofs.copy_in.Given as goal

abbrev pub invariant-loop-i : goal.invariant-loop-i
invariant-loop-i l = l.destination ≡ paste l.fn.destination l.at l.source l.i
