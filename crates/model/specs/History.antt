-- Timestamps, changes and the history (document 01, "Settings and stamps", "Tables", "A turn").
use Rattle.std.specs.Prelude.{Bool, true, false, cond, ◌&&◌, List, [], ◌∷◌, ℕ, ◌-◌, ◌^◌, eqb, ltb, ℤ, pos, negsuc}
use Rattle.general.specs.Lists.{tabulate}
use Rattle.start_values.specs.StartValues.{start_table}
use Rattle.machine.specs.Settings.{setting_count, Environment, value_in, Entry, after}
use Rattle.machine.specs.Instruction.{Code}
use Rattle.machine.specs.Run.{run}

-- 2^64 − 1
abbrev pub infinity : ℕ
infinity = 2 ^ 64 - 1

-- a timestamp is from 1 to 2^64 − 2
abbrev pub is_timestamp : ℕ → Bool
is_timestamp t = ltb 0 t && ltb t infinity

-- the start values, by the table (document 02, R-1)
unfoldable pub start : Environment
start = value_in start_table

pub data Status : Type 0 where
  New Valid Invalid : Status

-- the read list with the values seen, and the write list with the values written
pub record Lists : Type 0 where
  pub reads : List Entry
  pub writes : List Entry

abbrev pub empty : Lists
empty = record { reads = []; writes = [] }

-- the lists that a program's run leaves
unfoldable pub run_lists : Environment → Code → Lists
run_lists env p = record { reads = (run env p).reads; writes = (run env p).writes }

-- a held change: timestamp, program, status, withdrawn or not, and the lists of its last run
pub data Change : Type 0 where
  change : ℕ → Code → Status → Bool → Lists → Change

abbrev pub timestamp : Change → ℕ
timestamp (change t p s w l) = t

abbrev pub program : Change → Code
program (change t p s w l) = p

abbrev pub status : Change → Status
status (change t p s w l) = s

abbrev pub withdrawn : Change → Bool
withdrawn (change t p s w l) = w

abbrev pub lists : Change → Lists
lists (change t p s w l) = l

-- the held changes by rising timestamp
abbrev pub History : Type 0
History = List Change

-- the settings after a change
abbrev pub after_change : Change → Environment → Environment
after_change c env = after (lists c).writes env

-- the settings after every change of a history, from those before it
abbrev pub after_all : History → Environment → Environment
after_all [] env = env
after_all (c ∷ h) env = after_all h (after_change c env)

-- the values as of a timestamp: the settings after every change stamped below it, so that the highest such write of a setting counts
abbrev pub as_of : ℕ → History → Environment → Environment
as_of t [] env = env
as_of t (c ∷ h) env = as_of t h (cond (ltb (timestamp c) t) (after_change c env) env)

-- the 1,024 values of an environment
abbrev pub all_settings : Environment → List ℤ
all_settings env = tabulate setting_count env

-- are two values equal
abbrev pub eq_z : ℤ → ℤ → Bool
eq_z (pos m) (pos n) = eqb m n
eq_z (pos m) (negsuc n) = false
eq_z (negsuc m) (pos n) = false
eq_z (negsuc m) (negsuc n) = eqb m n

-- does each entry have the environment's value
abbrev pub all_hold : List Entry → Environment → Bool
all_hold [] env = true
all_hold (e ∷ l) env = eq_z e.value (env e.setting) && all_hold l env
