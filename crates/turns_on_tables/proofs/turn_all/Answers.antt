-- `turns_on_tables::turn_all`: what `drains::turn_all` ensures, told of all the tables.
use mathlib.Core.Path.{◌≡◌}
use Rattle.model.specs.Calls.{reply}
use Rattle.model.specs.Form.{Formed}
use Rattle.model.proofs.Form.{facts}
use Rattle.passing.specs.Drained.{drained}
use Rattle.turns_on_tables.proofs.Whole.{lend, told}
use Rattle.turns_on_tables.proofs.turn_all.Goals as goal

pub held_count-requires : goal.held_count-requires
held_count-requires c = (facts c.requires.0).sizes.held

pub turn_all-requires : goal.turn_all-requires
turn_all-requires c = (lend c.requires.0 c.held_count.ensures (Formed _) c.requires.0, c.requires.1)

pub returns : goal.returns
returns c = told c.requires.0 c.held_count.ensures (Formed _) (λ left T. reply c.turn_all.new.totals left ≡ drained T) c.turn_all.ensures c.requires.0
