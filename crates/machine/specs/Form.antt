-- Which programs are accepted (document 01, "Instructions of a change", refusals 6 and 7).
use Rattle.std.specs.Prelude.{Bool, true, false, ◌&&◌, List, [], ◌∷◌, ℕ, ◌+◌, ◌%◌, leb, ltb, eqb, ℤ, pos, negsuc, length, get_or}
use Rattle.general.specs.Lists.{all_below}
use Rattle.words.specs.Words.{is_zero}
use Rattle.machine.specs.declared.Format.{Format}
use Rattle.machine.specs.declared.Instruction.{Instruction}
use Rattle.machine.specs.declared.Operand.{Operand}
use Rattle.machine.specs.declared.Operand.TheVariants.{Unused, Number, Bits, Setting, Distance}
use Rattle.machine.specs.Settings.{setting_count}
use Rattle.machine.specs.Instruction.{instruction_at, instruction_count}

-- the limits of a register's number, and of an unused part, which is 0
abbrev pub register : ℕ
register = 8

abbrev pub unused : ℕ
unused = 1

abbrev pub format : ℕ → ℕ → ℕ → Operand → Format
format x y z k = record { a = x; b = y; c = z; n = k }

-- the operations 0 to 17, in order
abbrev pub formats : List Format
formats =
    format unused unused unused Unused
    ∷ format register unused unused Number
    ∷ format register register unused Unused
    ∷ format register register register Unused
    ∷ format register register register Unused
    ∷ format register register unused Unused
    ∷ format register register unused Bits
    ∷ format register register unused Unused
    ∷ format register register register Unused
    ∷ format register register register Unused
    ∷ format register register register Unused
    ∷ format register unused unused Setting
    ∷ format register register unused Unused
    ∷ format register unused unused Setting
    ∷ format register register unused Unused
    ∷ format unused register unused Distance
    ∷ format unused register unused Distance
    ∷ format unused unused unused Distance
    ∷ []

-- no operation: limits that nothing is below
abbrev pub unknown : Format
unknown = format 0 0 0 Unused

abbrev pub format_of : ℕ → Format
format_of operation = get_or formats operation unknown

-- is n at least 0 and below a limit
abbrev pub is_below : ℤ → ℕ → Bool
is_below (pos n) limit = ltb n limit
is_below (negsuc n) limit = false

-- n ≥ 0, and from this place the instruction after n others, or the end, is within the program
abbrev pub is_distance : ℤ → ℕ → ℕ → Bool
is_distance (pos n) place count = leb (place + 1 + n) count
is_distance (negsuc n) place count = false

-- is n right for its kind, at a place of a program of count instructions
abbrev pub operand_fits : Operand → ℤ → ℕ → ℕ → Bool
operand_fits Unused n place count = is_zero n
operand_fits Number n place count = true
operand_fits Bits n place count = is_below n 32
operand_fits Setting n place count = is_below n setting_count
operand_fits Distance n place count = is_distance n place count

-- the instruction is in the table, and its registers, n and unused parts are right
unfoldable pub is_well_formed : ℕ → ℕ → Instruction → Bool
is_well_formed count place i =
    let f = format_of i.operation in
    ltb i.a f.a && (ltb i.b f.b && (ltb i.c f.c && operand_fits f.n i.n place count))

-- not refusal 6: at most 256 bytes, a multiple of 8
unfoldable pub length_fits : List ℕ → Bool
length_fits bytes = leb (length bytes) 256 && eqb (length bytes % 8) 0

-- not refusal 7: every instruction is well formed, reached or not
unfoldable pub all_well_formed : List ℕ → Bool
all_well_formed bytes = all_below (instruction_count bytes) (λ place. is_well_formed (instruction_count bytes) place (instruction_at bytes place))
