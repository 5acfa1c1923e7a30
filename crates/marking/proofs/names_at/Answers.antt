-- Of setting 0 the list is looked through, of any other the 32 slots, which name the same settings other than 0.
use Rattle.std.proofs.Common.{◌∙◌}
use Rattle.marking.proofs.Steps.{lent-slots}
use Rattle.marking.proofs.names_at.Goals as goal

pub returns : goal.returns
returns c = c.names_setting-2.ensures ∙ lent-slots c.args.s c.args.place c.args.counts.now c.args.settings.now c.if-zero.false c.requires
