-- `replies::put_turns` meets its contract: the lines of the turns so far, with those of the drain of what is left, are the lines of the whole drain. Assumes nothing.
use Rattle.std.proofs.Common.{arith}
use Rattle.replies.proofs.Turning.{turning-begins, turning-goes-on, turning-ends}
use Rattle.replies.proofs.put_turns.Goals as goal

pub loop-at-init : goal.loop-at-init
loop-at-init c = turning-begins _ _ _ c.requires.formed

pub loop-at-smaller : goal.loop-at-smaller
loop-at-smaller c =
    (turning-goes-on c.loop-at.invariant (omega (arith, c.requires.at_in_bounds)) c.put_turn-end.ensures.upper_bound c.put_turn-end.auto.text c.turn-answer.ensures c.is_idle.ensures c.if-is_idle.false c.put_turn-end.ensures.put).1

pub loop-at-preserved : goal.loop-at-preserved
loop-at-preserved c =
    (turning-goes-on c.loop-at.invariant (omega (arith, c.requires.at_in_bounds)) c.put_turn-end.ensures.upper_bound c.put_turn-end.auto.text c.turn-answer.ensures c.is_idle.ensures c.if-is_idle.false c.put_turn-end.ensures.put).0

pub returns-then-is_idle : goal.returns-then-is_idle
returns-then-is_idle c =
    turning-ends c.loop-at.invariant (omega (arith, c.requires.at_in_bounds)) c.turn-answer.ensures c.is_idle.ensures c.if-is_idle.true c.put_turn-end.ensures.put
