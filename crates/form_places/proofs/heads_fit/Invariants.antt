use Rattle.general.proofs.Checks.{Tested}
use Rattle.model.specs.Form.{head_fits}
use Rattle.form_places.proofs.heads_fit.Given as goal

abbrev pub invariant-loop-i : goal.invariant-loop-i
invariant-loop-i l = Tested (head_fits l.timestamps l.status l.withdrawn l.reads l.writes l.versions) l.count l.i l.fits
