-- The form of an instruction by masks: which bits of its eight bytes, taken as one number, are 0 where it is well formed.
use Rattle.std.specs.Prelude.{cond, List, ℕ, ◌+◌, ◌-◌, ◌*◌, leb}
use Rattle.machine.specs.declared.Operand.{Operand}
use Rattle.machine.specs.declared.Operand.TheVariants.{Unused, Number, Bits, Setting, Distance}
use Rattle.machine.specs.Settings.{setting_count}
use Rattle.machine.specs.Instruction.{word_at}
use Rattle.machine.specs.Form.{format_of}

-- the eight bytes at i, low byte first
abbrev pub encoding_at : List ℕ → ℕ → ℕ
encoding_at bytes i = word_at bytes i + word_at bytes (i + 4) * 4294967296

-- the limit of n's pattern, a power of two; the patterns of negative numbers are from 2^31 on
abbrev pub pattern_limit : Operand → ℕ
pattern_limit Unused = 1
pattern_limit Number = 4294967296
pattern_limit Bits = 32
pattern_limit Setting = setting_count
pattern_limit Distance = 2147483648

-- an instruction's parts as one number: a byte each, then n
abbrev pub joined : ℕ → ℕ → ℕ → ℕ → ℕ → ℕ
joined operation a b c n = (((n * 256 + c) * 256 + b) * 256 + a) * 256 + operation

-- the bits of each part from its limit on: the limits are powers of two, so a part is below its limit where those bits are 0
abbrev pub mask_of : ℕ → ℕ
mask_of operation =
    let f = format_of operation in
    joined 0 (256 - f.a) (256 - f.b) (256 - f.c) (4294967296 - pattern_limit f.n)

-- the distance of an operation that has one, given the pattern of n, else 0
abbrev pub reach_of : ℕ → ℕ → ℕ
reach_of operation n = cond (leb 15 operation) n 0
