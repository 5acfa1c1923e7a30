-- The numbers are zeros.
use Rattle.uses.proofs.LastUses.{numbers-new}
use Rattle.uses.proofs.SettingUses.none.Goals as goal

pub returns : goal.returns
returns c = record { uses = record { readers = numbers-new; writers = numbers-new }; settled = numbers-new }
