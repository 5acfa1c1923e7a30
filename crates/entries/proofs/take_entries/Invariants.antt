-- the entries before entry j are carried out
use Rattle.entry.specs.Entry.{with_lent}
use Rattle.entries.proofs.Entries.{EntriesBefore}
use Rattle.entries.proofs.take_entries.Given as goal

abbrev pub invariant-loop-j : goal.invariant-loop-j
invariant-loop-j l =
    EntriesBefore l.bytes l.initial.answers
    (λ T. with_lent T l.initial.held l.initial.timestamps l.initial.order l.initial.status l.initial.withdrawn l.initial.lengths l.initial.programs l.initial.versions l.cutoff)
    l.j l.body
    (λ T. with_lent T l.held l.timestamps l.order l.status l.withdrawn l.lengths l.programs l.versions l.cutoff)
    l.answers
