-- `writers::names_setting`: what has been passed and what is left tell whether the list names the setting.
use Rattle.std.proofs.Common.{◌≡◌, ◌||◌, drop}
use Rattle.model.specs.Form.{holds}
use Rattle.writers.proofs.names_setting.Given as goal

abbrev pub invariant-loop-x : goal.invariant-loop-x
invariant-loop-x l = (l.found || holds l.s (drop l.x-index l.settings)) ≡ holds l.s l.settings
