-- `text::put_number` meets its contract: the digits that are put are all digits of the number. Assumes nothing.
use Rattle.text.proofs.Pieces.{put_as}
use Rattle.text.proofs.Digits.{all_digits}
use Rattle.text.proofs.put_number.Goals as goal

pub returns-clause-put : goal.returns-clause-put
returns-clause-put c = put_as c.put.ensures (all_digits c.args.number _ c.ranges.number.fits c.decimal-count.ensures.len c.decimal-count.ensures.digits)
