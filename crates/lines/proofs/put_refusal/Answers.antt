-- `lines::put_refusal` meets its contract: three pieces, one after another. Assumes nothing.
use Rattle.std.proofs.Common.{◌≤◌, length, arith}
use Rattle.text.proofs.Pieces.{put_then}
use Rattle.lines.proofs.put_refusal.Goals as goal

pub returns-clause-put : goal.returns-clause-put
returns-clause-put c =
    let room : c.args.at ≤ length c.args.text.now = omega arith in
    put_then (put_then c.put-end.ensures room c.put_number-end.ensures.put) room c.put.ensures
