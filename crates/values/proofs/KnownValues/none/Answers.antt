-- No value is known, so each that is known is right.
use Rattle.std.proofs.Common.{refl}
use Rattle.values.proofs.Known.{none-known}
use Rattle.values.proofs.KnownValues.none.Goals as goal

pub returns : goal.returns
returns c env = none-known env _ refl refl refl
