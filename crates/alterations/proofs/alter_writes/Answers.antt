-- Looked up, carried, collected.
use Rattle.std.proofs.Common.{refl}
use Rattle.alterations.proofs.Alters.{altered}
use Rattle.alterations.proofs.alter_writes.Goals as goal

pub returns : goal.returns
returns c =
    altered c.requires.0 c.know_list.ensures c.know_list-2.ensures refl c.carry.ensures c.carry-2.ensures c.requires.1 c.collect_changed-count.ensures c.collect_changed.ensures
