-- `compaction::renumber` meets its contract: the entries that are passed stand by their new numbers. Assumes nothing.
use Rattle.std.proofs.Common.{◌≡◌, ◌-◌, arith}
use Rattle.compaction.proofs.Moves.{renumber-next, renumber-last}
use Rattle.compaction.proofs.renumber.Goals as goal

pub loop-j-preserved : goal.loop-j-preserved
loop-j-preserved c = renumber-next _ c.requires c.loop-j.invariant c.loop-j-test.true

pub returns : goal.returns
returns c =
    let e : c.loop-j.j ≡ c.args.count - c.args.first = omega arith in
    renumber-last _ c.requires (rw e at c.loop-j.invariant) c.clear.ensures
