-- `words::wrapping_add` meets its contract: std's wrapped number is the wrapped number.
use Rattle.std.proofs.Common.{rules}
use Rattle.std.proofs.lemmas.Int.{wraps}
use Rattle.words.proofs.Laws.{wrap-is}
use Rattle.words.proofs.wrapping_add.Goals as goal

pub returns : goal.returns
returns c = rw (← wrap-is _) (search (rules, wraps))
