-- `bytecode::form::length_fits` meets its contract: the two tests of the code are those of the definition.
use Rattle.std.proofs.Common.{rules, length, arith}
use borrow.Author.Tests.{le-leb}
use Rattle.machine.specs.Form.{length_fits}
use Rattle.bytecode.proofs.form.length_fits.Goals as goal

pub returns-then-program-le256 : goal.returns-then-program-le256
unfolding length_fits
returns-then-program-le256 c = rw (le-leb (length c.args.program.now) 256 (omega arith))

pub returns-else-program-le256 : goal.returns-else-program-le256
unfolding length_fits
returns-else-program-le256 c = search rules
