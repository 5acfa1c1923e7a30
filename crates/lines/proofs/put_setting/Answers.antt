-- `lines::put_setting` meets its contract: nothing for the start value, and five pieces, one after another. Assumes nothing.
use Rattle.std.proofs.Common.{◌≤◌, length, arith}
use Rattle.text.proofs.Pieces.{put_as, put-nothing, put_then}
use Rattle.lines.proofs.Cases.{setting-none, setting-some}
use Rattle.lines.proofs.put_setting.Goals as goal

pub returns-then-value-start-clause-put : goal.returns-then-value-start-clause-put
returns-then-value-start-clause-put c =
    put_as (put-nothing c.args.at c.args.text.now) (setting-none c.args.setting c.args.start c.ranges.value c.ranges.start c.if-value-start.true)

pub returns-clause-put : goal.returns-clause-put
returns-clause-put c =
    let room : c.args.at ≤ length c.args.text.now = omega arith in
    let line = put_then (put_then (put_then (put_then c.put-end.ensures room c.put_number-end.ensures.put) room c.put-end-2.ensures) room c.put_signed-end.ensures.put) room c.put.ensures in
    put_as line (setting-some c.args.setting c.args.start c.ranges.value c.if-value-start.false)
