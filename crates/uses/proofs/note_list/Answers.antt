-- One setting more is stored, until none is left.
use Rattle.std.proofs.Common.{◌∙◌}
use Rattle.uses.proofs.Lists.{numbered_next, numbered-end}
use Rattle.uses.proofs.note_list.Goals as goal

pub loop-s-preserved : goal.loop-s-preserved
loop-s-preserved c = numbered_next _ _ c.loop-s.s-index c.loop-s.numbers c.loop-s-test.true ∙ c.loop-s.invariant

pub returns : goal.returns
returns c = numbered-end _ _ c.loop-s.s-index c.loop-s.numbers c.loop-s-test.false ∙ c.loop-s.invariant
