-- What the rest of the settings restore is what all of them do, for `differences::restore`.
use Rattle.std.proofs.Common.{◌≡◌, drop}
use Rattle.differences.specs.Differences.{restored}
use Rattle.differences.proofs.restore.Given as goal

abbrev pub invariant-loop-setting : goal.invariant-loop-setting
invariant-loop-setting l = restored (drop l.setting-index l.settings) l.after l.before ≡ restored l.settings l.after l.initial.before
