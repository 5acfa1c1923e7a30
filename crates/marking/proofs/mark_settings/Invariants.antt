-- Marking the settings from here on is marking them all.
use Rattle.std.proofs.Common.{◌+◌}
use Rattle.uses.specs.Columns.{lent_columns}
use Rattle.marking.proofs.Settling.{MarkedTo}
use Rattle.marking.proofs.mark_settings.Given as goal

abbrev pub invariant-loop-s : goal.invariant-loop-s
invariant-loop-s l = MarkedTo (lent_columns l.columns) (l.k + 1) l.changed l.initial.status l.initial.uses l.s-index l.status l.uses
