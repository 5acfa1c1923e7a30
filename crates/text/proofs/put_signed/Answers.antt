-- `text::put_signed` meets its contract: the digits are those of the absolute value. Assumes nothing.
use Rattle.std.proofs.Common.{sym, ◌∙◌, arith}
use Rattle.text.proofs.Pieces.{put_as, put_then}
use Rattle.text.proofs.Digits.{digits-of-negative, digits-of-other}
use Rattle.text.proofs.put_signed.Goals as goal
use Rattle.text.proofs.put_signed.Goals.{then-number-lt0, else-number-lt0}

pub returns-clause-put : goal.returns-clause-put
returns-clause-put c =
    let size = c.from.ensures ∙ c.unsigned_abs.ensures.value in
    elim c.if-number-lt0.branch [
      | then-number-lt0 w ↦
          let digits = rw (w.text-is, w.end-is) at c.put_number.ensures.put in
          put_as (put_then w.put-end.ensures (omega arith) digits) (sym (digits-of-negative c.ranges.number size w.if-number-lt0.true))
      | else-number-lt0 w ↦
          let digits = rw (w.text-is, w.end-is) at c.put_number.ensures.put in
          put_as digits (sym (digits-of-other c.ranges.number size w.if-number-lt0.false))
    ]
