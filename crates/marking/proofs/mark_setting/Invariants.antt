-- The walk from the position on is the rest of the walk.
use Rattle.uses.specs.Columns.{lent_columns}
use Rattle.marking.proofs.Steps.{Walked}
use Rattle.marking.proofs.mark_setting.Given as goal

abbrev pub invariant-loop-p : goal.invariant-loop-p
invariant-loop-p l = Walked (lent_columns l.columns) l.s l.fn.from l.fn.to l.initial.status l.status l.p
