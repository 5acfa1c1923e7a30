-- Worked programs: some of document 01's cases, a fault of each kind, the rules of version 1 (document 02, R-6), and the bounds of the form test. Each table is proved by computation.
use Rattle.std.specs.Prelude.{◌≡◌, refl, Bool, true, false, List, [], ◌∷◌, ◌++◌, map, ℕ, ℤ, pos, negsuc, replicate}
use Rattle.std.specs.Int.Count.{ones_in}
use Rattle.words.specs.Words.{pattern_of, number_of, wrap, floor_div, ones_of}
use Rattle.machine.specs.declared.Instruction.{Instruction}
use Rattle.machine.specs.Settings.{Entry, entry, named, first_value, replace_first, lookup, after}
use Rattle.machine.specs.Instruction.{Program, instruction_at, instructions_from, program_of}
use Rattle.general.specs.Lists.{all_below}
use Rattle.machine.specs.Form.{is_well_formed, length_fits, all_well_formed}
use Rattle.machine.specs.Run.{effect, shift_right, no_setting, reads_written, writes_twice, enter, load, store, perform, step, Ending, completed, faulted, Outcome, run_from, run_program}

-- settings that are not 0 at first, a version and a program, and its outcome
record Example : Type 0 where
  settings : List Entry
  version : ℕ
  program : Program
  outcome : Outcome

abbrev pub instruction : ℕ → ℕ → ℕ → ℕ → ℤ → Instruction
instruction o x y z k = record { operation = o; a = x; b = y; c = z; n = k }

abbrev example_by : ℕ → List Entry → Program → List Entry → List Entry → Ending → Example
example_by rules initial code rs ws end =
    record { settings = initial; version = rules; program = code; outcome = record { reads = rs; writes = ws; ending = end } }

abbrev example : List Entry → Program → List Entry → List Entry → Ending → Example
example = example_by 0

-- the instructions of these examples: ra = n, ra = setting n, setting n = ra
abbrev pub constant : ℕ → ℤ → Instruction
constant a n = instruction 1 a 0 0 n

abbrev pub reading : ℕ → ℕ → Instruction
reading a s = instruction 11 a 0 0 (pos s)

abbrev pub writing : ℕ → ℕ → Instruction
writing s a = instruction 13 a 0 0 (pos s)

-- copies 34 to 50
copies : Example
copies = example (entry 34 (pos 7) ∷ []) (reading 0 34 ∷ writing 50 0 ∷ []) (entry 34 (pos 7) ∷ []) (entry 50 (pos 7) ∷ []) completed

-- adds 1 to 34
adds : Example
adds =
    example (entry 34 (pos 7) ∷ [])
    (reading 0 34 ∷ constant 1 (pos 1) ∷ instruction 3 0 0 1 (pos 0) ∷ writing 34 0 ∷ [])
    (entry 34 (pos 7) ∷ []) (entry 34 (pos 8) ∷ []) completed

-- writes 34 twice, and so writes nothing
writes-twice : Example
writes-twice = example [] (constant 0 (pos 5) ∷ writing 34 0 ∷ writing 34 0 ∷ []) [] [] (faulted writes_twice 2)

-- −2,147,483,648 negated; 2,147,483,647 + 1; −5 by operation 6 with n = 1; the ones of −1
extremes : Example
extremes =
    example []
    (constant 0 (negsuc 2147483647)
    ∷ instruction 5 1 0 0 (pos 0)
    ∷ writing 0 1
    ∷ constant 0 (pos 2147483647)
    ∷ constant 1 (pos 1)
    ∷ instruction 3 2 0 1 (pos 0)
    ∷ writing 1 2
    ∷ constant 0 (negsuc 4)
    ∷ instruction 6 1 0 0 (pos 1)
    ∷ writing 2 1
    ∷ constant 0 (negsuc 0)
    ∷ instruction 7 1 0 0 (pos 0)
    ∷ writing 3 1
    ∷ []) []
    (entry 0 (negsuc 2147483647) ∷ entry 1 (negsuc 2147483647) ∷ entry 2 (negsuc 2) ∷ entry 3 (pos 32) ∷ [])
    completed

-- takes 300 from 36, and sets 37 to 1 if that is negative, else to 0
draw : Program
draw =
    reading 0 36
    ∷ constant 1 (pos 300)
    ∷ instruction 4 2 0 1 (pos 0)
    ∷ writing 36 2
    ∷ instruction 15 0 2 0 (pos 1)
    ∷ instruction 17 0 0 0 (pos 1)
    ∷ constant 3 (pos 1)
    ∷ writing 37 3
    ∷ []

draws : Example
draws = example (entry 36 (pos 400) ∷ []) draw (entry 36 (pos 400) ∷ []) (entry 36 (pos 100) ∷ entry 37 (pos 0) ∷ []) completed

overdraws : Example
overdraws = example (entry 36 (pos 200) ∷ []) draw (entry 36 (pos 200) ∷ []) (entry 36 (negsuc 99) ∷ entry 37 (pos 1) ∷ []) completed

-- a fault keeps the earlier reads: 34 is read, 40 is written, then 40 is read
reads-written : Example
reads-written =
    example (entry 34 (pos 7) ∷ []) (reading 0 34 ∷ writing 40 0 ∷ reading 1 40 ∷ []) (entry 34 (pos 7) ∷ []) [] (faulted reads_written 2)

-- register 0 holds 1,024, which is no setting
leaves-settings : Example
leaves-settings = example [] (constant 0 (pos 1024) ∷ instruction 12 1 0 0 (pos 0) ∷ []) [] [] (faulted no_setting 1)

-- 34 is read twice and stands in the read list once; what follows the stop is not run
stops-early : Example
stops-early =
    example (entry 34 (pos 7) ∷ []) (reading 0 34 ∷ reading 1 34 ∷ writing 50 1 ∷ instruction 0 0 0 0 (pos 0) ∷ writing 51 1 ∷ [])
    (entry 34 (pos 7) ∷ []) (entry 50 (pos 7) ∷ []) completed

-- version 1: 34 is read, written, and read back; the read list keeps what was seen first, and 50 gets what was written
reads-back : Example
reads-back =
    example_by 1 (entry 34 (pos 7) ∷ []) (reading 0 34 ∷ constant 1 (pos 5) ∷ writing 34 1 ∷ reading 2 34 ∷ writing 50 2 ∷ [])
    (entry 34 (pos 7) ∷ []) (entry 34 (pos 5) ∷ entry 50 (pos 5) ∷ []) completed

-- version 1: a setting that is only read back stands in no read list
reads-own : Example
reads-own = example_by 1 (entry 34 (pos 7) ∷ []) (writing 34 0 ∷ reading 1 34 ∷ []) [] (entry 34 (pos 0) ∷ []) completed

-- version 1: 34 is written again, and 50 after the first time; the new value stands in 34's first place
writes_again : Example
writes_again =
    example_by 1 [] (constant 0 (pos 5) ∷ writing 34 0 ∷ writing 50 0 ∷ constant 0 (pos 6) ∷ writing 34 0 ∷ [])
    [] (entry 34 (pos 6) ∷ entry 50 (pos 5) ∷ []) completed

-- version 1: register 0 holds 1,024, which is no setting
leaves-settings-too : Example
leaves-settings-too = example_by 1 [] (constant 0 (pos 1024) ∷ writing 34 0 ∷ instruction 14 0 0 0 (pos 0) ∷ []) [] [] (faulted no_setting 2)

examples : List Example
examples =
    copies
    ∷ adds
    ∷ writes-twice
    ∷ extremes
    ∷ draws
    ∷ overdraws
    ∷ reads-written
    ∷ leaves-settings
    ∷ stops-early
    ∷ reads-back
    ∷ reads-own
    ∷ writes_again
    ∷ leaves-settings-too
    ∷ []

ran : Example → Outcome
ran e = run_program (after e.settings (λ s. pos 0)) e.version e.program

expected : Example → Outcome
expected e = e.outcome

examples-hold : map ran examples ≡ map expected examples
unfolding examples copies adds writes-twice extremes draw draws overdraws reads-written leaves-settings stops-early reads-back reads-own writes_again leaves-settings-too ran expected run_program run_from step perform effect load store enter named first_value replace_first lookup shift_right pattern_of number_of wrap floor_div ones_of ones_in
examples-hold = refl

-- ---- bytes

-- ra = −5; setting 1,023 = ra
decoded : program_of (1 ∷ 7 ∷ 0 ∷ 0 ∷ 251 ∷ 255 ∷ 255 ∷ 255 ∷ 13 ∷ 7 ∷ 0 ∷ 0 ∷ 255 ∷ 3 ∷ 0 ∷ 0 ∷ []) ≡ constant 7 (negsuc 4) ∷ writing 1023 7 ∷ []
unfolding program_of instructions_from instruction_at number_of
decoded = refl

-- ---- the form test

-- an instruction at place 1 of a program of 4, and whether it is well formed there
record Form : Type 0 where
  instruction : Instruction
  accepted : Bool

abbrev form : ℕ → ℕ → ℕ → ℕ → ℤ → Bool → Form
form o x y z k answer = record { instruction = instruction o x y z k; accepted = answer }

-- the ends of each range: registers, n, unused parts, the operations themselves
forms : List Form
forms =
    form 0 0 0 0 (pos 0) true
    ∷ form 0 1 0 0 (pos 0) false
    ∷ form 0 0 0 0 (pos 1) false
    ∷ form 1 7 0 0 (negsuc 2147483647) true
    ∷ form 1 8 0 0 (pos 0) false
    ∷ form 1 0 1 0 (pos 0) false
    ∷ form 2 7 7 0 (pos 0) true
    ∷ form 2 0 8 0 (pos 0) false
    ∷ form 2 0 0 0 (negsuc 0) false
    ∷ form 3 7 7 7 (pos 0) true
    ∷ form 4 0 0 8 (pos 0) false
    ∷ form 5 0 0 1 (pos 0) false
    ∷ form 6 0 0 0 (pos 31) true
    ∷ form 6 0 0 0 (pos 32) false
    ∷ form 6 0 0 0 (negsuc 0) false
    ∷ form 11 0 0 0 (pos 1023) true
    ∷ form 11 0 0 0 (pos 1024) false
    ∷ form 13 0 0 0 (negsuc 0) false
    ∷ form 14 7 7 0 (pos 0) true
    ∷ form 15 0 7 0 (pos 2) true
    ∷ form 15 1 7 0 (pos 2) false
    ∷ form 16 0 0 0 (pos 3) false
    ∷ form 17 0 0 0 (pos 2) true
    ∷ form 17 0 0 0 (pos 3) false
    ∷ form 17 0 0 0 (negsuc 0) false
    ∷ form 18 0 0 0 (pos 0) false
    ∷ []

tested : Form → Bool
tested f = is_well_formed 4 1 f.instruction

answer : Form → Bool
answer f = f.accepted

forms-hold : map tested forms ≡ map answer forms
unfolding forms tested answer is_well_formed
forms-hold = refl

-- refusal 6: 256 bytes, none and 8 are accepted, 264 and 7 are not
lengths-hold : map (λ k. length_fits (replicate k 0)) (0 ∷ 7 ∷ 8 ∷ 256 ∷ 264 ∷ []) ≡ (true ∷ false ∷ true ∷ true ∷ false ∷ [])
unfolding length_fits
lengths-hold = refl

-- refusal 7 tests every instruction, reached or not: behind a stop stands an operation that is none
unreached : all_well_formed (replicate 8 0 ++ (18 ∷ replicate 7 0)) ≡ false
unfolding all_well_formed all_below is_well_formed instruction_at number_of
unreached = refl
