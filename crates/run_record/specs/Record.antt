-- What the run record and the caller's arrays stand for.
use Rattle.std.specs.Prelude.{◌≡◌, Bool, true, false, cond, List, ℕ, ◌+◌, ◌-◌, ◌≤◌, ◌<◌, eqb, ℤ, pos, length, set, replicate}
use Rattle.machine.specs.declared.Effect.{Effect}
use Rattle.machine.specs.declared.Effect.TheVariants.{Halt, Assign, Load, Store, Skip}
use Rattle.machine.specs.Settings.{entries}
use Rattle.machine.specs.Form.{is_distance, register}
use Rattle.machine.specs.Run.{no_setting, reads_written, writes_twice, State, Next, Ending, completed, faulted, Outcome, continue}
use Rattle.machine.specs.Run as machine_run
use Rattle.run_record.specs.declared.Fault.{Fault}
use Rattle.run_record.specs.declared.Fault.TheVariants.{NoSetting, ReadsWritten, WritesTwice}
use Rattle.run_record.specs.declared.Status.{Status}
use Rattle.run_record.specs.declared.Status.TheVariants.{Going, Stopped, Faulted}
use Rattle.run_record.specs.declared.Lists.{Lists}
use Rattle.run_record.specs.declared.Run.{Run}

-- v where a is i, else w
abbrev pub pick : ℕ → ℕ → ℤ → ℤ → ℤ
pick a i v w = cond (eqb a i) v w

-- ---- the record after a method

abbrev pub begun : ℕ → Run
begun version = record { version = version; registers = replicate 8 (pos 0); place = 0; reads = 0; writes = 0; status = Going }

abbrev pub assigned : Run → ℕ → ℤ → Run
assigned r a v = record { version = r.version; registers = set r.registers a v; place = r.place; reads = r.reads; writes = r.writes; status = r.status }

abbrev pub advanced : Run → ℕ → Run
advanced r k = record { version = r.version; registers = r.registers; place = r.place + 1 + k; reads = r.reads; writes = r.writes; status = r.status }

abbrev pub ended : Run → Status → ℕ → Run
ended r status writes = record { version = r.version; registers = r.registers; place = r.place; reads = r.reads; writes = writes; status = status }

abbrev pub entered_read : Run → Run
entered_read r = record { version = r.version; registers = r.registers; place = r.place; reads = r.reads + 1; writes = r.writes; status = r.status }

abbrev pub entered_write : Run → Run
entered_write r = record { version = r.version; registers = r.registers; place = r.place; reads = r.reads; writes = r.writes + 1; status = r.status }

-- ---- the arrays after a method

abbrev pub lists : List ℕ → List ℤ → List ℕ → List ℤ → Lists
lists sources seen targets written = record { sources = sources; seen = seen; targets = targets; written = written }

-- the arrays before a run
abbrev pub no_lists : Lists
no_lists = lists (replicate 32 0) (replicate 32 (pos 0)) (replicate 32 0) (replicate 32 (pos 0))

-- entry k of the read list set to the setting s with the value v
abbrev pub with_read : ℕ → ℕ → ℤ → Lists → Lists
with_read k s v l = lists (set l.sources k s) (set l.seen k v) l.targets l.written

-- entry k of the write list set to the setting s with the value v
abbrev pub with_write : ℕ → ℕ → ℤ → Lists → Lists
with_write k s v l = lists l.sources l.seen (set l.targets k s) (set l.written k v)

-- ---- the state that a record and the caller's arrays stand for

-- the arrays have their 32 places, as the type of a run's lists says
pub record Sized (l : Lists) : Type 0 where
  pub sources : length l.sources ≡ 32
  pub seen : length l.seen ≡ 32
  pub targets : length l.targets ≡ 32
  pub written : length l.written ≡ 32

abbrev pub state_of : Run → Lists → State
state_of r l =
    record { version = r.version; registers = r.registers; reads = entries r.reads l.sources l.seen; writes = entries r.writes l.targets l.written }

-- a fault of the code as one of the definition
abbrev pub fault_of : Fault → machine_run.Fault
fault_of NoSetting = no_setting
fault_of ReadsWritten = reads_written
fault_of WritesTwice = writes_twice

abbrev pub is_going : Status → Bool
is_going Going = true
is_going Stopped = false
is_going (Faulted fault) = false

-- the run did not break off
abbrev pub is_whole : Status → Bool
is_whole Going = true
is_whole Stopped = true
is_whole (Faulted fault) = false

-- how a run that stands so at a place ended; a run that goes on has passed the end of its program
abbrev pub ending_at : Status → ℕ → Ending
ending_at Going place = completed
ending_at Stopped place = completed
ending_at (Faulted fault) place = faulted (fault_of fault) place

-- how a record's run ended
abbrev pub ending_of : Run → Ending
ending_of r = ending_at r.status r.place

abbrev pub outcome_of : Run → Lists → Outcome
outcome_of r l = record { reads = (state_of r l).reads; writes = (state_of r l).writes; ending = ending_of r }

-- what follows the instruction at a place where it leaves this record: while the record goes on, what rest makes of the instructions after it,
-- past so many of them, and else the record's outcome
abbrev pub proceed : (ℕ → State → Outcome) → ℕ → Run → Lists → Outcome
proceed rest place r l = cond (is_going r.status) (rest (r.place - (place + 1)) (state_of r l)) (outcome_of r l)

-- what the code that carries out an effect at a place relies on
abbrev pub Performable : ℕ → Effect → Type 0
Performable place Halt = Unit {0}
Performable place (Assign a v) = a < register
Performable place (Load a s) = a < register
Performable place (Store s v) = Unit {0}
Performable place (Skip n) = is_distance n place 32 ≡ true

-- a record that can take one more instruction
pub record Ready (r : Run) : Type 0 where
  pub going : r.status ≡ Going
  pub placed : r.place < 32
  pub reads : r.reads ≤ r.place
  pub writes : r.writes ≤ r.place

-- the record and the arrays after follow from the record before as next says, however the rest runs
pub record Stepped (before : Run) (next : Next) (after : Run) (l : Lists) : Type 0 where
  pub follows : (rest : ℕ → State → Outcome) → proceed rest before.place after l ≡ continue rest before.place next
  pub rises : after.status ≡ Going → before.place < after.place
  pub within : after.place ≤ 32
  pub reads : after.reads ≤ before.place + 1
  pub writes : after.writes ≤ before.place + 1

-- a record and the arrays that hold an outcome
pub record Ran (r : Run) (l : Lists) (o : Outcome) : Type 0 where
  pub outcome : outcome_of r l ≡ o
  pub placed : r.place ≤ 32
  pub reads : r.reads ≤ 32
  pub writes : r.writes ≤ 32
