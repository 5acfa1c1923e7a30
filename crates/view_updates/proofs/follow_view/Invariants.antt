-- What the rest of the settings store after what has been stored is what all of them do, for `view_updates::follow_view`.
use Rattle.std.proofs.Common.{◌≡◌, ◌+◌, drop}
use Rattle.view_updates.specs.View.{followed}
use Rattle.view_updates.proofs.follow_view.Given as goal

abbrev pub invariant-loop-s : goal.invariant-loop-s
invariant-loop-s l = followed l.writers (l.k + 1) l.after (drop l.s-index l.changed) l.view ≡ followed l.writers (l.k + 1) l.after l.changed l.initial.view
