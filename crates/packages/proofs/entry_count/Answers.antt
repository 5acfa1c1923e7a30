use Rattle.std.proofs.Common.{◌∙◌}
use Rattle.packages.proofs.Numbers.{two_bytes}
use Rattle.packages.proofs.entry_count.Goals as goal

pub returns : goal.returns
returns c = c.from.ensures ∙ c.from_le_bytes.ensures ∙ two_bytes c.args.bytes.now
