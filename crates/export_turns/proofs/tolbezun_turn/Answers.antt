-- A law for each return.
use Rattle.answer_numbers.proofs.Slices.{turn-length, turn-done}
use Rattle.export_turns.proofs.tolbezun_turn.Goals as goal

pub returns-then-values-ne2 : goal.returns-then-values-ne2
returns-then-values-ne2 c = turn-length _ _ _ c.if-values-ne2.true

pub returns : goal.returns
returns c = turn-done _ _ _ c.if-values-ne2.false c.put_turned.ensures c.turn-answer.ensures
