-- `turns_on_tables::turn_once`: what `single_turn::turn_once` ensures, told of all the tables.
use mathlib.Core.Path.{◌≡◌}
use Rattle.model.specs.Answers.{as_turn}
use Rattle.model.specs.Calls.{reply}
use Rattle.model.specs.Form.{Formed}
use Rattle.model.proofs.Form.{facts}
use Rattle.turns.specs.Turns.{turned}
use Rattle.turns_on_tables.proofs.Whole.{lend, told}
use Rattle.turns_on_tables.proofs.turn_once.Goals as goal

pub held_count-requires : goal.held_count-requires
held_count-requires c = (facts c.requires).sizes.held

pub turn_once-requires : goal.turn_once-requires
turn_once-requires c = lend c.requires c.held_count.ensures (Formed _) c.requires

pub returns : goal.returns
returns c = told c.requires c.held_count.ensures (Formed _) (λ left T. reply (as_turn c.turn_once.result) left ≡ turned T) c.turn_once.ensures c.requires
