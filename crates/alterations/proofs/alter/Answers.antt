-- The part of the write list that is lent is the old writes.
use Rattle.std.proofs.Common.{refl}
use Rattle.values.proofs.Parts.{write-entries}
use Rattle.alterations.proofs.Alters.{altered-by}
use Rattle.alterations.proofs.alter.Goals as goal

pub returns : goal.returns
returns c = altered-by (write-entries c.requires.2.listed _ c.requires.0.at.place) refl c.alter_writes.ensures
