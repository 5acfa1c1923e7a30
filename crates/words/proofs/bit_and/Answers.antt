-- `words::bit_and` meets its contract: the bits of a number are its pattern.
use lib.Bits.{bit_and}
use Rattle.words.proofs.Laws.{bits-operation}
use Rattle.words.proofs.bit_and.Goals as goal

pub returns : goal.returns
returns c = bits-operation bit_and c.ranges.a c.ranges.b
