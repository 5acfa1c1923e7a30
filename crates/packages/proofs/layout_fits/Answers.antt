use Rattle.std.proofs.Common.{arith}
use Rattle.packages.proofs.Entries.{wrong-length, too_many, cut_short, bodies-tell}
use Rattle.packages.proofs.layout_fits.Goals as goal

pub returns-then-not-length : goal.returns-then-not-length
returns-then-not-length c = wrong-length c.args.bytes.now c.if-not-length.true

pub returns-then-count-gt512 : goal.returns-then-count-gt512
returns-then-count-gt512 c = too_many c.args.bytes.now c.if-not-length.false c.entry_count-count.ensures c.if-count-gt512.true

pub returns-then-length-entry_at : goal.returns-then-length-entry_at
returns-then-length-entry_at c =
    cut_short c.args.bytes.now c.if-not-length.false c.entry_count-count.ensures c.if-count-gt512.false (omega arith)

pub returns : goal.returns
returns c =
    bodies-tell c.args.bytes.now c.if-not-length.false c.entry_count-count.ensures c.if-count-gt512.false (omega arith) c.bodies_fit.ensures
