-- `interpreter_exports::tolbezun_program_refusal` meets its contract: the tests of the code are those of the definition, in order.
use borrow.Author.Tests.{le-leb, lt-leb}
use Rattle.interpreter_exports.specs.Numbers.{refusal_of}
use Rattle.interpreter_exports.proofs.tolbezun_program_refusal.Goals as goal

pub returns-then-not-length_fits : goal.returns-then-not-length_fits
unfolding refusal_of
returns-then-not-length_fits c = rw (← c.length_fits.ensures, c.if-not-length_fits.true)

pub returns-then-version-gt1 : goal.returns-then-version-gt1
unfolding refusal_of
returns-then-version-gt1 c = rw (← c.length_fits.ensures, c.if-not-length_fits.false, lt-leb _ 1 c.if-version-gt1.true)

pub returns-then-not-well_formed : goal.returns-then-not-well_formed
unfolding refusal_of
returns-then-not-well_formed c = rw (← c.length_fits.ensures, c.if-not-length_fits.false, le-leb _ 1 c.if-version-gt1.false, ← c.well_formed-2.ensures, c.if-not-well_formed.true)

pub returns : goal.returns
unfolding refusal_of
returns c = rw (← c.length_fits.ensures, c.if-not-length_fits.false, le-leb _ 1 c.if-version-gt1.false, ← c.well_formed-2.ensures, c.if-not-well_formed.false)
