-- The tests of the code are those of the definition, in order.
use Rattle.tables.proofs.Checks.{out_of_range, lengths-tested}
use Rattle.tables.proofs.form.lengths_fit.Goals as goal

pub returns-then-not-n : goal.returns-then-not-n
returns-then-not-n c = out_of_range _ _ c.if-not-n.true

pub returns : goal.returns
returns c = lengths-tested _ _ c.if-not-n.false
