-- The pass has gone up to the position, and the drain of what is left is the rest of the whole drain.
use Rattle.model.specs.Tables.{Tables}
use Rattle.turns.specs.Turns.{with_lent, Going}
use Rattle.passing.proofs.Pass.{Passing}
use Rattle.passing.proofs.pass_from.Given as goal

abbrev pub invariant-loop-k : goal.invariant-loop-k
invariant-loop-k l =
    let i = l.initial in
    (T : Tables) →
    let L = with_lent T l.count l.timestamps l.order i.status l.withdrawn l.lengths l.programs i.reads i.writes i.sources i.seen i.targets i.written i.view l.versions l.kept in
    Going l.fn.first L i.values i.uses →
    Passing L (with_lent T l.count l.timestamps l.order l.status l.withdrawn l.lengths l.programs l.reads l.writes l.sources l.seen l.targets l.written l.view l.versions l.kept) l.totals l.k l.values l.uses
