-- `lines::put_outcome` meets its contract, by the answer and the kind. Assumes nothing.
use Rattle.std.proofs.Common.{arith}
use Rattle.text.proofs.Pieces.{put_as, put_then}
use Rattle.lines.proofs.Cases.{outcome-refused}
use Rattle.lines.proofs.put_outcome.Goals as goal

pub returns-then-answer-ne0-clause-put : goal.returns-then-answer-ne0-clause-put
returns-then-answer-ne0-clause-put c =
    put_as (put_then c.put-end.ensures (omega arith) c.put_number.ensures.put) (outcome-refused c.args.kind c.if-answer-eq255.false c.if-answer-ne0.true)
