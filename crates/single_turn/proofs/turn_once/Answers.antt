-- `single_turn::turn_once`: an outcome for each return.
use Rattle.search.proofs.Answers.{found_at, found_nothing}
use Rattle.search.proofs.Waits.{placed-status}
use Rattle.single_turn.proofs.Steps.{turn-idle, turn-single}
use Rattle.single_turn.proofs.turn_once.Goals as goal

pub waiting-requires : goal.waiting-requires
waiting-requires c = placed-status c.requires.so

pub turn_at-requires : goal.turn_at-requires
turn_at-requires c = record { others = c.requires.others; so = turn-single c.requires.so (found_at _ c.waiting.ensures c.in-Some.is) c.none-values.ensures c.none-uses.ensures }

pub returns-in-Some : goal.returns-in-Some
returns-in-Some c T g = (c.turn_at.ensures T (turn-single g (found_at _ c.waiting.ensures c.in-Some.is) c.none-values.ensures c.none-uses.ensures)).0

pub returns-in-None : goal.returns-in-None
returns-in-None c T g = turn-idle g (found_nothing _ c.waiting.ensures c.in-None.is)
