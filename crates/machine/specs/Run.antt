-- The run of a program on an environment, by the rules of its version (document 01, "Instructions of a change"; document 02, R-6).
use Rattle.std.specs.Prelude.{cond, List, [], ◌∷◌, ◌++◌, ℕ, zero, suc, ◌^◌, eqb, ℤ, pos, ◌+ℤ◌, ◌-ℤ◌, neg_ℤ, nat_abs, get_or, set, replicate}
use Rattle.std.specs.Int.Bits.{bit_and, bit_or, bit_xor}
use Rattle.std.specs.Int.Signed.{lt_z}
use Rattle.words.specs.Words.{pattern_of, number_of, wrap, floor_div, ones_of, is_zero}
use Rattle.machine.specs.declared.Effect.{Effect}
use Rattle.machine.specs.declared.Effect.TheVariants.{Halt, Assign, Load, Store, Skip}
use Rattle.machine.specs.declared.Instruction.{Instruction}
use Rattle.machine.specs.Settings.{Environment, Entry, entry, named, first_value, replace_first, setting_count}
use Rattle.machine.specs.Instruction.{Program, program_of, Code}
use Rattle.machine.specs.Form.{is_below}

-- ---- what an instruction does

-- the number in a register
abbrev pub register_in : List ℤ → ℕ → ℤ
register_in registers r = get_or registers r (pos 0)

-- x divided by 2^n, rounded down
unfoldable pub shift_right : ℤ → ℤ → ℤ
shift_right x n = floor_div x (2 ^ nat_abs n)

-- an operation on the patterns of two numbers
abbrev pub on_patterns : (ℕ → ℕ → ℕ) → ℤ → ℤ → ℤ
on_patterns operation x y = number_of (operation (pattern_of x) (pattern_of y))

-- the effects of the operations 0 to 17, in order, at the numbers ra, rb and rc of the registers a, b and c
abbrev pub effects : ℕ → ℤ → ℤ → ℤ → ℤ → List Effect
effects a n ra rb rc =
    Halt
    ∷ Assign a n
    ∷ Assign a rb
    ∷ Assign a (wrap (rb +ℤ rc))
    ∷ Assign a (wrap (rb -ℤ rc))
    ∷ Assign a (wrap (neg_ℤ rb))
    ∷ Assign a (shift_right rb n)
    ∷ Assign a (pos (ones_of (pattern_of rb)))
    ∷ Assign a (on_patterns bit_and rb rc)
    ∷ Assign a (on_patterns bit_or rb rc)
    ∷ Assign a (on_patterns bit_xor rb rc)
    ∷ Load a n
    ∷ Load a rb
    ∷ Store n ra
    ∷ Store rb ra
    ∷ Skip (cond (lt_z rb (pos 0)) n (pos 0))
    ∷ Skip (cond (is_zero rb) n (pos 0))
    ∷ Skip n
    ∷ []

-- the effect of an instruction at the registers' numbers
unfoldable pub effect : Instruction → List ℤ → Effect
effect i registers =
    get_or (effects i.a i.n (register_in registers i.a) (register_in registers i.b) (register_in registers i.c)) i.operation Halt

-- ---- one step

-- why a run faults: a register names no setting; and in version 0, it reads a setting that it has written, it writes one twice
pub data Fault : Type 0 where
  no_setting : Fault
  reads_written : Fault
  writes_twice : Fault

-- the version, which stays, and the registers, the read list and the write list between two instructions
pub record State : Type 0 where
  pub version : ℕ
  pub registers : List ℤ
  pub reads : List Entry
  pub writes : List Entry

-- how an instruction leaves the run: stopped, faulted with the earlier reads alone, or going on past so many instructions
pub data Next : Type 0 where
  stops : State → Next
  faults : Fault → List Entry → Next
  goes : ℕ → State → Next

-- the list with an entry more at its end, unless it names the setting: each setting once, in order of first reading
unfoldable pub enter : ℕ → ℤ → List Entry → List Entry
enter s v l = cond (named s l) l (l ++ (entry s v ∷ []))

-- the state with register a set to v, and with another read list or write list
abbrev pub with_register : ℕ → ℤ → State → State
with_register a v state = record { version = state.version; registers = set state.registers a v; reads = state.reads; writes = state.writes }

abbrev pub with_reads : List Entry → State → State
with_reads reads state = record { version = state.version; registers = state.registers; reads = reads; writes = state.writes }

abbrev pub with_writes : List Entry → State → State
with_writes writes state = record { version = state.version; registers = state.registers; reads = state.reads; writes = writes }

-- what follows a second use of a setting that the run has written: a fault in version 0, else the state by the rules of version 1
abbrev pub once_written : Fault → State → State → Next
once_written fault state allowed = cond (eqb state.version 0) (faults fault state.reads) (goes 0 allowed)

-- register a is set to setting s. "Version 1 reads its own written value, which enters no read list" (document 02, R-6)
unfoldable pub load : Environment → ℕ → ℕ → State → Next
load env a s state =
    cond (named s state.writes) (once_written reads_written state (with_register a (first_value s state.writes) state))
    (goes 0 (with_register a (env s) (with_reads (enter s (env s) state.reads) state)))

-- setting s is set to v. In version 1 "a second write replaces the value in its first place in the list" (document 02, R-6)
unfoldable pub store : ℕ → ℤ → State → Next
store s v state =
    cond (named s state.writes) (once_written writes_twice state (with_writes (replace_first s v state.writes) state))
    (goes 0 (with_writes (state.writes ++ (entry s v ∷ [])) state))

-- an effect carried out
unfoldable pub perform : Environment → Effect → State → Next
perform env Halt state = stops state
perform env (Assign a v) state = goes 0 (with_register a v state)
perform env (Load a s) state = cond (is_below s setting_count) (load env a (nat_abs s) state) (faults no_setting state.reads)
perform env (Store s v) state = cond (is_below s setting_count) (store (nat_abs s) v state) (faults no_setting state.reads)
perform env (Skip n) state = goes (nat_abs n) state

unfoldable pub step : Environment → Instruction → State → Next
step env i state = perform env (effect i state.registers) state

-- the setting that an effect reads, or setting_count where it reads none
abbrev pub setting_or : ℤ → ℕ
setting_or s = cond (is_below s setting_count) (nat_abs s) setting_count

abbrev pub wanted : Effect → ℕ
wanted Halt = setting_count
wanted (Assign a v) = setting_count
wanted (Load a s) = setting_or s
wanted (Store s v) = setting_count
wanted (Skip n) = setting_count

-- ---- the run

-- how a run ends: whole, or by a fault at a place
pub data Ending : Type 0 where
  completed : Ending
  faulted : Fault → ℕ → Ending

-- what a run leaves: the read list with the values seen, the write list, how it ended
pub record Outcome : Type 0 where
  pub reads : List Entry
  pub writes : List Entry
  pub ending : Ending

abbrev pub whole : State → Outcome
whole state = record { reads = state.reads; writes = state.writes; ending = completed }

-- a faulted run writes nothing and keeps its earlier reads
abbrev pub broken : Fault → ℕ → List Entry → Outcome
broken fault place earlier = record { reads = earlier; writes = []; ending = faulted fault place }

-- what follows the instruction at a place, where rest runs those after it, past so many of them
abbrev pub continue : (ℕ → State → Outcome) → ℕ → Next → Outcome
continue rest place (stops state) = whole state
continue rest place (faults fault earlier) = broken fault place earlier
continue rest place (goes skipped state) = rest skipped state

-- the instructions from a place on, of which the next so many are passed over; the end stops the run
unfoldable pub run_from : Environment → ℕ → Program → ℕ → State → Outcome
run_from env place [] skipped state = whole state
run_from env place (i ∷ rest) (suc skipped) state = run_from env (suc place) rest skipped state
run_from env place (i ∷ rest) zero state = continue (run_from env (suc place) rest) place (step env i state)

-- registers 0 to 7 start at 0
abbrev pub start : ℕ → State
start version = record { version = version; registers = replicate 8 (pos 0); reads = []; writes = [] }

unfoldable pub run_program : Environment → ℕ → Program → Outcome
run_program env version program = run_from env 0 program 0 (start version)

-- the run of a program as it is held
unfoldable pub run : Environment → Code → Outcome
run env p = run_program env p.version (program_of p.bytes)
