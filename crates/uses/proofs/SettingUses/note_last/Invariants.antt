-- Up to the position the numbers tell the last readers and writers.
use Rattle.std.proofs.Common.{◌≡◌}
use Rattle.uses.specs.Columns.{lent_columns}
use Rattle.uses.specs.Uses.{LastUses}
use Rattle.uses.proofs.SettingUses.note_last.Given as goal

abbrev pub invariant-loop-p : goal.invariant-loop-p
invariant-loop-p l = LastUses l.fn.from l.p (lent_columns l.columns) l.status l.self.readers l.self.writers × (l.self.settled ≡ l.initial.self.settled)
