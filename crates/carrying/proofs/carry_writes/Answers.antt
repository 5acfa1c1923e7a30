-- `carrying::carry_writes` meets its contract: the parts that are lent are the list of the place. Assumes nothing.
use Rattle.std.proofs.Common.{arith, ap, ◌∙◌, List}
use Rattle.machine.specs.Settings.{Entry, carry}
use Rattle.values.proofs.Parts.{part-entries}
use Rattle.carrying.proofs.carry_writes.Goals as goal

pub returns : goal.returns
returns c =
    let a = c.args in
    c.carry.ensures
    ∙ ap (λ (l : List Entry). carry l a.values.now) (part-entries a.writes.now a.targets.now a.written.now a.place (omega arith) (omega arith))
