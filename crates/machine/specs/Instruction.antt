-- A program's bytes as instructions (document 01, "Instructions of a change").
use Rattle.std.specs.Prelude.{List, [], ◌∷◌, ℕ, zero, suc, ◌+◌, ◌*◌, ◌/◌, length, get_or}
use Rattle.words.specs.Words.{number_of}
use Rattle.machine.specs.declared.Instruction.{Instruction}

abbrev pub Program : Type 0
Program = List Instruction

-- a program as it is taken in and held: the version of the rules that it runs by, 0 or 1 (document 02, R-6), and its bytes
pub record Code : Type 0 where
  pub version : ℕ
  pub bytes : List ℕ

abbrev pub code : ℕ → List ℕ → Code
code version bytes = record { version = version; bytes = bytes }

-- the four bytes at i, low byte first
abbrev pub word_at : List ℕ → ℕ → ℕ
word_at bytes i = get_or bytes i 0 + get_or bytes (i + 1) 0 * 256 + (get_or bytes (i + 2) 0 * 65536 + get_or bytes (i + 3) 0 * 16777216)

-- the instruction at a place, counted from 0: operation, a, b, c (a byte each), then n, signed 32-bit
unfoldable pub instruction_at : List ℕ → ℕ → Instruction
instruction_at bytes place =
    record {
      operation = get_or bytes (place * 8) 0;
      a = get_or bytes (place * 8 + 1) 0;
      b = get_or bytes (place * 8 + 2) 0;
      c = get_or bytes (place * 8 + 3) 0;
      n = number_of (word_at bytes (place * 8 + 4));
    }

-- count instructions from a place on
unfoldable pub instructions_from : List ℕ → ℕ → ℕ → Program
instructions_from bytes place zero = []
instructions_from bytes place (suc count) = instruction_at bytes place ∷ instructions_from bytes (suc place) count

-- how many instructions the bytes hold
abbrev pub instruction_count : List ℕ → ℕ
instruction_count bytes = length bytes / 8

unfoldable pub program_of : List ℕ → Program
program_of bytes = instructions_from bytes 0 (instruction_count bytes)
