-- A drain's step.
use Rattle.std.specs.Prelude.{◌≡◌, ◌⊎◌}
use Rattle.model.specs.Answers.{Turned}
use Rattle.model.specs.Tables.{Tables}
use Rattle.model.specs.Calls.{reply}
use Rattle.turns.specs.Turns.{turned}

-- a Valid change is passed over, any other has its turn
abbrev pub Passed : Turned → Tables → Tables → Type 0
Passed r T U = ((r ≡ Turned.Idle) × (U ≡ T)) ⊎ (reply r U ≡ turned T)
