use Rattle.std.proofs.Common.{◌≡◌, true}
use Rattle.general.specs.Lists.{all_below}
use Rattle.model.specs.Form.{program_fits}
use Rattle.form_places.proofs.programs_fit.Given as goal

abbrev pub invariant-loop-i : goal.invariant-loop-i
invariant-loop-i l = all_below l.i (program_fits l.lengths l.programs) ≡ true
