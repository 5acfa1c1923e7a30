-- `differences::collect_changed` meets its contract: a turn collects the next setting, or passes over it. Assumes nothing.
use Rattle.std.proofs.Common.{arith, rules}
use Rattle.differences.proofs.Changed.{collecting-one, collecting-same, collecting-all}
use Rattle.differences.proofs.collect_changed.Goals as goal
use Rattle.differences.proofs.collect_changed.Goals.{then-before-x, else-before-x}

pub loop-s-preserved : goal.loop-s-preserved
loop-s-preserved c =
    elim c.if-before-x.branch [
      | then-before-x w ↦ rw w.total-is (collecting-one c.loop-s.invariant (omega arith) (omega arith) w.if-before-x.true)
      | else-before-x w ↦ rw w.total-is (collecting-same c.loop-s.invariant (omega arith) (omega arith) (search rules) (search rules) w.if-before-x.false)
    ]

pub returns : goal.returns
returns c = collecting-all c.loop-s.invariant (omega arith)
