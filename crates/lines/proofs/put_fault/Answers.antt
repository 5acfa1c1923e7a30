-- `lines::put_fault` meets its contract: five pieces, one after another. Assumes nothing.
use Rattle.std.proofs.Common.{ap, List, ◌++◌, ℕ, ◌≤◌, length, append_assoc, arith}
use Rattle.text.specs.Pieces.{ascii}
use Rattle.text.specs.Decimal.{decimal}
use Rattle.text.proofs.Pieces.{put_as, put_then}
use Rattle.lines.proofs.put_fault.Goals as goal

pub returns-clause-put : goal.returns-clause-put
returns-clause-put c =
    let room : c.args.at ≤ length c.args.text.now = omega arith in
    let line = put_then (put_then (put_then (put_then c.put-end.ensures room c.put_number-end.ensures.put) room c.put-end-2.ensures) room c.put_number-end-2.ensures.put) room c.put.ensures in
    let same = append_assoc (ascii "turn " ++ decimal c.args.timestamp) (ascii " faulted ") (decimal c.args.place) in
    put_as line (ap (λ (l : List ℕ). l ++ ascii "\n") same)
