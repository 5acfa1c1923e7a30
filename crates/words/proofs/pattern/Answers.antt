-- `words::pattern` meets its contract: std's bits of the number are its pattern.
use Rattle.std.proofs.Common.{rules}
use Rattle.words.specs.Meaning.{bits-pattern}
use Rattle.words.proofs.pattern.Goals as goal

pub returns : goal.returns
returns c = rw (← bits-pattern _ c.ranges.x) (search rules)
