-- `words::bit_xor` meets its contract: the bits of a number are its pattern.
use lib.Bits.{bit_xor}
use Rattle.words.proofs.Laws.{bits-operation}
use Rattle.words.proofs.bit_xor.Goals as goal

pub returns : goal.returns
returns c = bits-operation bit_xor c.ranges.a c.ranges.b
