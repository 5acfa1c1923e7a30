use Rattle.std.proofs.Common.{arith}
use Rattle.search.proofs.Steps.{rank-within}
use Rattle.query_answers.proofs.value_at.Goals as goal

-- the position is among the held changes
pub value_below-requires : goal.value_below-requires
value_below-requires c =
    let p = c.requires.0 in
    let r = rank-within c.args.order.now c.args.timestamps.now c.args.timestamp c.args.count in
    (record { long = omega (arith, p.long, c.rank-k.ensures, r); below = λ j h. omega (arith, p.below j (omega (arith, c.rank-k.ensures, r)), c.requires.1) }, c.requires.2, omega (arith, c.requires.3, c.if-setting-ge1024.false))
