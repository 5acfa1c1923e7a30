-- `words::wrapping_sub` meets its contract: std's wrapped number is the wrapped number.
use Rattle.std.proofs.Common.{rules}
use Rattle.std.proofs.lemmas.Int.{wraps}
use Rattle.words.proofs.Laws.{wrap-is}
use Rattle.words.proofs.wrapping_sub.Goals as goal

pub returns : goal.returns
returns c = rw (← wrap-is _) (search (rules, wraps))
