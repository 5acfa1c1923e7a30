-- `writers::written_at`: no entry that the loop has passed is of the setting.
use Rattle.std.proofs.Common.{◌≡◌, ◌*◌}
use Rattle.writers.proofs.Steps.{first_writes}
use Rattle.writers.proofs.written_at.Given as goal

abbrev pub invariant-loop-j : goal.invariant-loop-j
invariant-loop-j l = first_writes l.s (32 * l.place) l.targets l.written l.j ≡ first_writes l.s (32 * l.place) l.targets l.written l.count
