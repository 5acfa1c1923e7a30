-- Answers of the exported functions as numbers.
use Rattle.std.specs.Prelude.{cond, ◌&&◌, List, [], ◌∷◌, ◌++◌, ℕ, zero, suc, ◌+◌, ◌*◌, eqb, ℤ, length, drop}
use Rattle.machine.specs.Settings.{value_in}
use Rattle.machine.specs.Instruction.{Code}
use Rattle.machine.specs.Run.{Fault, no_setting, reads_written, writes_twice, Ending, completed, faulted, Outcome, run}
use Rattle.model.specs.Tables.{settings_of, values_of}
use Rattle.model.specs.Refusals.{first_of, wrong_program_length, no_version, malformed}
use Rattle.run_record.specs.declared.Lists.{Lists}
use Rattle.run_record.specs.Record.{lists}

-- 6 for a wrong length, 13 for a version above 1, 7 for an instruction that is not well formed, else 0
unfoldable pub refusal_of : Code → ℕ
refusal_of p = first_of (wrong_program_length p ∷ no_version p ∷ malformed p ∷ [])

-- the number of a fault
abbrev pub fault_number : Fault → ℕ
fault_number no_setting = 1
fault_number reads_written = 2
fault_number writes_twice = 3

-- an outcome as a number: its lengths, reads + 64 × writes, and of a fault 4,096 × its number + 65,536 × its place
abbrev pub outcome_number : ℕ → Ending → ℕ
outcome_number lengths completed = lengths
outcome_number lengths (faulted fault place) = lengths + fault_number fault * 4096 + place * 65536

-- ---- the run into lent lists

-- the refusal of a run into lists of these lengths: 1 where one of them is not 32, else the program's, 0 for none
abbrev pub run_refusal : Code → ℕ → ℕ → ℕ → ℕ → ℕ
run_refusal p sources seen targets written =
    cond (eqb sources 32 && eqb seen 32 && eqb targets 32 && eqb written 32) (refusal_of p) 1

-- a list put over the first elements of another; those past it stay
abbrev pub over : {A : Type 0} → List A → List A → List A
over new old = new ++ drop (length new) old

-- what the run gives its caller: a number, and what the four lent lists hold
pub record Report : Type 0 where
  pub number : ℕ
  pub lent : Lists

abbrev pub reported : ℕ → Lists → Report
reported number lent = record { number = number; lent = lent }

-- the outcome's number; its reads and writes stand first in the lent lists
abbrev pub of_run : Outcome → Lists → Report
of_run o l =
    reported (outcome_number (length o.reads + length o.writes * 64) o.ending)
    (lists
    (over (settings_of o.reads) l.sources)
    (over (values_of o.reads) l.seen)
    (over (settings_of o.writes) l.targets)
    (over (values_of o.writes) l.written))

-- a refused run is 16,777,216 + its refusal, and the lists stay; a run's number is below, since its counts and its place are at most 32
abbrev pub report_by : ℕ → Outcome → Lists → Report
report_by zero o l = of_run o l
report_by (suc refusal) o l = reported (16777216 + suc refusal) l

-- the report of a program, run on a list of values
unfoldable pub report : Code → List ℤ → Lists → Report
report p values l =
    report_by (run_refusal p (length l.sources) (length l.seen) (length l.targets) (length l.written)) (run (value_in values) p) l
