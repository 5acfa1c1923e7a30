-- The entries that the loop has passed hold.
use Rattle.std.proofs.Common.{◌≡◌, length}
use Rattle.machine.specs.Settings.{entries}
use Rattle.model.specs.History.{all_hold}
use Rattle.values.specs.Values.{lists_of, values_as_of, Looked}
use Rattle.values.proofs.Seen.{rest_hold}
use Rattle.values.proofs.KnownValues.seen_hold.Given as goal

abbrev pub invariant-loop-s : goal.invariant-loop-s
invariant-loop-s l =
    let env = values_as_of (lists_of l.history) l.k in
    (rest_hold l.sources l.seen env (length l.yielded) ≡ all_hold (entries (length l.sources) l.sources l.seen) env) × Looked env l.initial.self l.self
