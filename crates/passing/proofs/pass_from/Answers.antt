-- One change further, and past the last.
use Rattle.passing.proofs.Drains.{totals-small}
use Rattle.passing.proofs.Pass.{pass-begins, pass-next, pass-ends}
use Rattle.passing.proofs.pass_from.Goals as goal

pub loop-k-init : goal.loop-k-init
loop-k-init c T g = pass-begins c.requires.0 g c.requires.2

pub pass_at-answer-requires : goal.pass_at-answer-requires
pass_at-answer-requires c =
    let whole = c.requires.1 in
    (c.loop-k-test.true, record { others = whole.others; so = (c.loop-k.invariant whole.others whole.so).going })

pub count_turn-requires : goal.count_turn-requires
count_turn-requires c =
    let whole = c.requires.1 in
    totals-small whole.so.formed (c.loop-k.invariant whole.others whole.so).drains

pub loop-k-preserved : goal.loop-k-preserved
loop-k-preserved c T g =
    let p = c.loop-k.invariant T g in
    pass-next p c.loop-k-test.true (c.pass_at-answer.ensures T p.going) c.count_turn.ensures

pub returns : goal.returns
returns c T g = pass-ends c.loop-k-test.false (c.loop-k.invariant T g)
