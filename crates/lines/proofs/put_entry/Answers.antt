-- `lines::put_entry` meets its contract: five pieces, one after another. Assumes nothing.
use Rattle.std.proofs.Common.{◌≤◌, length, arith}
use Rattle.text.proofs.Pieces.{put_then}
use Rattle.lines.proofs.put_entry.Goals as goal

pub returns-clause-put : goal.returns-clause-put
returns-clause-put c =
    let room : c.args.at ≤ length c.args.text.now = omega arith in
    put_then (put_then (put_then (put_then c.put-end.ensures room c.put_number-end.ensures.put) room c.put-end-2.ensures) room c.put_outcome-end.ensures.put) room c.put.ensures
