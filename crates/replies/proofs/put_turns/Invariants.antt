-- The lines of the turns so far are put, and those of the drain of what is left are to come.
use Rattle.std.proofs.Common.{length}
use Rattle.model.specs.Tables.{tables}
use Rattle.model.specs.Log.{drain_turns}
use Rattle.replies.specs.Replies.{capacity}
use Rattle.replies.proofs.Turning.{Turning}
use Rattle.replies.proofs.put_turns.Given as goal

abbrev pub invariant-loop-at : goal.invariant-loop-at
invariant-loop-at l =
    let i = l.initial in
    Turning (tables l.held l.timestamps l.order i.status l.withdrawn l.lengths l.programs i.reads i.writes i.sources i.seen i.targets i.written i.view l.versions l.cutoff l.kept) l.at i.text (tables l.held l.timestamps l.order l.status l.withdrawn l.lengths l.programs l.reads l.writes l.sources l.seen l.targets l.written l.view l.versions l.cutoff l.kept) l.text l.end

abbrev pub decreases-loop-at : goal.decreases-loop-at
decreases-loop-at l = length (drain_turns capacity (tables l.held l.timestamps l.order l.status l.withdrawn l.lengths l.programs l.reads l.writes l.sources l.seen l.targets l.written l.view l.versions l.cutoff l.kept))
