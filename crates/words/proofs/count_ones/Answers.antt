-- `words::count_ones` meets its contract: a pattern has at most 32 ones.
use Rattle.std.proofs.Common.{rules}
use Rattle.words.specs.Meaning.{pattern_of-range, ones_of-ones}
use Rattle.words.proofs.count_ones.Goals as goal

pub returns : goal.returns
returns c = rw (ones_of-ones _ (pattern_of-range c.args.a), c.pattern.ensures) (search rules)
