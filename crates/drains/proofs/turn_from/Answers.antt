-- The pass begins with all values known, and how far each setting matters noted.
use Rattle.std.proofs.Common.{arith}
use Rattle.model.proofs.Form.{facts}
use Rattle.drains.proofs.Begins.{within, writes_below, uses-above, going-first}
use Rattle.drains.proofs.turn_from.Goals as goal

pub all-values-requires : goal.all-values-requires
all-values-requires c = (facts c.requires.0.so.0).sizes.kept

pub carry_below-requires : goal.carry_below-requires
carry_below-requires c = writes_below c.requires.0.so.0 c.requires.0.so.1

pub note_last-requires : goal.note_last-requires
note_last-requires c = uses-above c.requires.0.so.0 c.requires.0.so.1 c.none-uses.ensures

pub pass_from-requires : goal.pass_from-requires
pass_from-requires c = (
  omega (arith, within c.requires.0.so.0 c.requires.0.so.1),
  record {
    others = c.requires.0.others;
    so = going-first c.requires.0.so.0 c.requires.0.so.1 c.all-values.ensures.right c.carry_below.ensures c.none-uses.ensures c.note_last.ensures;
  },
  c.requires.1,
)

pub returns : goal.returns
returns c T g = c.pass_from.ensures T (going-first g c.requires.0.so.1 c.all-values.ensures.right c.carry_below.ensures c.none-uses.ensures c.note_last.ensures)
