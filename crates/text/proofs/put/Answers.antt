-- `text::put` meets its contract: the piece is copied to what lies between the place and its end. Assumes nothing.
use Rattle.text.proofs.Pieces.{copied}
use Rattle.text.proofs.put.Goals as goal

pub returns : goal.returns
returns c = copied c.args.at c.args.piece.now c.args.text.now c.copy_from_slice.new.self c.copy_from_slice.ensures.after
