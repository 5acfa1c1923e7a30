use Rattle.general.proofs.Checks.{Tested}
use Rattle.model.specs.Form.{from_cutoff}
use Rattle.form_places.proofs.none_below.Given as goal

abbrev pub invariant-loop-timestamp : goal.invariant-loop-timestamp
invariant-loop-timestamp l = Tested (from_cutoff l.cutoff l.timestamps) l.count l.timestamp-index l.fits
