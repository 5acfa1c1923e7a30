use Rattle.std.proofs.Common.{eq-eqb}
use borrow.Author.Tests.{ne_eqb}
use Rattle.text.proofs.Pieces.{put-nothing}
use Rattle.package_entries.proofs.put_withdrawal.Goals as goal

pub returns-then-stands : goal.returns-then-stands
returns-then-stands c = rw (eq-eqb _ 0 c.if-stands.true) (put-nothing c.args.at c.args.bytes.now)

pub returns : goal.returns
returns c = rw (ne_eqb _ 0 c.if-stands.false) c.put_entry.ensures
