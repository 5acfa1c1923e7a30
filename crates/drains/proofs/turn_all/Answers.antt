-- `drains::turn_all`: an outcome for each return.
use Rattle.search.proofs.Answers.{found_at, found_nothing}
use Rattle.search.proofs.Waits.{placed-status}
use Rattle.drains.proofs.Begins.{pass-none}
use Rattle.drains.proofs.turn_all.Goals as goal

pub waiting-requires : goal.waiting-requires
waiting-requires c = placed-status c.requires.0.so

pub turn_from-requires : goal.turn_from-requires
turn_from-requires c = (record { others = c.requires.0.others; so = (c.requires.0.so, found_at _ c.waiting.ensures c.in-Some.is) }, c.requires.1)

pub returns-in-Some : goal.returns-in-Some
returns-in-Some c T g = c.turn_from.ensures T g

pub returns-in_default : goal.returns-in_default
returns-in_default c T g = pass-none g c.requires.1 (found_nothing _ c.waiting.ensures c.in_default.is)
