-- `words::bit_or` meets its contract: the bits of a number are its pattern.
use lib.Bits.{bit_or}
use Rattle.words.proofs.Laws.{bits-operation}
use Rattle.words.proofs.bit_or.Goals as goal

pub returns : goal.returns
returns c = bits-operation bit_or c.ranges.a c.ranges.b
