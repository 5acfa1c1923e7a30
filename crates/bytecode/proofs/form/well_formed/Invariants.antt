use Rattle.std.proofs.Common.{◌≡◌, eqb}
use Rattle.general.specs.Lists.{all_below}
use Rattle.bytecode.proofs.Masks.{passes}
use Rattle.bytecode.proofs.form.well_formed.Given as goal

abbrev pub invariant-loop-place : goal.invariant-loop-place
invariant-loop-place l = eqb l.any 0 ≡ all_below l.place (passes l.program l.count)
