-- `fresh::start_value` meets its contract: the table's rule, or 0 past its end. Assumes nothing.
use Rattle.std.proofs.Common.{◌%◌, arith, sym, eq-eqb, ne_eqb}
use Rattle.model.proofs.Start.{start-past, start-rule}
use Rattle.fresh.proofs.start_value.Goals as goal
use Rattle.fresh.proofs.start_value.Goals.{else-s-lt1024-via-then-s-lt1024+else-s-eq2, else-s-lt1024-via-else-s-lt1024}

pub returns-then-s-eq2 : goal.returns-then-s-eq2
returns-then-s-eq2 c = rw (start-rule c.args.s (omega arith), eq-eqb (c.args.s % 16) 2 c.if-s-eq2.true)

pub returns-else-s-lt1024 : goal.returns-else-s-lt1024
returns-else-s-lt1024 c =
    elim c.else-s-lt1024.branch [
      | else-s-lt1024-via-then-s-lt1024+else-s-eq2 w ↦ rw (start-rule c.args.s (omega arith), ne_eqb (c.args.s % 16) 2 w.if-s-eq2.false)
      | else-s-lt1024-via-else-s-lt1024 w ↦ sym (start-past c.args.s (omega arith))
    ]
