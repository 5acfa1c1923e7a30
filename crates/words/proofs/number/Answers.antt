-- `words::number` meets its contract: std's number of the bits is the number of the pattern.
use Rattle.std.proofs.Common.{rules}
use Rattle.words.specs.Words.{number_of}
use Rattle.words.proofs.number.Goals as goal

pub returns : goal.returns
unfolding number_of
returns c = search rules
