-- A change's lists replaced by new ones, and what follows from it, on the lent lists.
use Rattle.std.specs.Prelude.{◌≡◌, List, ℕ, ◌+◌, ◌<◌, ◌≤◌, ℤ, length, get_or, take}
use Rattle.machine.specs.Settings.{setting_count, entries}
use Rattle.machine.specs.Instruction.{code}
use Rattle.machine.specs.Run.{run}
use Rattle.run_record.specs.declared.Run.{Run}
use Rattle.run_record.specs.declared.Lists.{Lists}
use Rattle.run_record.specs.Record.{Sized}
use Rattle.model.specs.Tables.{slots, program_in}
use Rattle.writers.specs.Writers.{OfSettings}
use Rattle.values.specs.declared.KnownValues.{KnownValues}
use Rattle.values.specs.Values.{Lookable}
use Rattle.uses.specs.Columns.{Columns}
use Rattle.uses.specs.declared.SettingUses.{SettingUses}
use Rattle.uses.specs.Uses.{Markable}
use Rattle.storing.specs.Stored.{NewLists, new_lists, ListsStorable, ListsPut}
use Rattle.acts.specs.declared.Act.{Act}
use Rattle.acts.specs.Acts.{Positioned}
use Rattle.execution.specs.Executed.{Runnable, Made}
use Rattle.propagation.specs.Propagated.{history_by, values_at, Propagated}

-- new lists in their 32 slots
pub record Fitting (l : NewLists) : Type 0 where
  pub reads : l.reads ≤ 32
  pub writes : l.writes ≤ 32
  pub sources : length l.sources ≡ 32
  pub seen : length l.seen ≡ 32
  pub targets : length l.targets ≡ 32
  pub written : length l.written ≡ 32
  pub settings : OfSettings (take l.writes l.targets)

-- what replacing the lists of the change at a position relies on
pub record Replaceable (k : ℕ) (C : Columns) (seen written kept : List ℤ) (lengths programs status : List ℕ) (view : List ℤ) (v : KnownValues) (u : SettingUses) : Type 0 where
  pub runnable : Runnable k C.order lengths programs
  pub at : Positioned k C.order (length C.writes)
  pub settings : OfSettings (slots 32 (get_or C.order k 0) (get_or C.writes (get_or C.order k 0) 0) C.targets)
  pub lookable : Lookable k (history_by C written kept) v
  pub markable : Markable (k + 1) C status u
  pub viewed : length view ≡ setting_count
  pub small : k < 4096
  pub storable : (l : NewLists) → Fitting l → ListsStorable (get_or C.order k 0) l C.reads C.writes C.sources seen C.targets written

-- the columns of the new lists that a run left
abbrev pub new_columns : Run → Lists → NewLists
new_columns r l = new_lists r.reads r.writes l.sources l.seen l.targets l.written

-- the new lists, left by this run, what follows from them, and they are stored
pub record Replaced (a : Act) (version : ℕ) (new : Run) (k : ℕ) (C : Columns) (seen written kept : List ℤ) (lengths programs status : List ℕ) (view : List ℤ) (u : SettingUses) (status' : List ℕ) (C' : Columns) (seen' written' view' : List ℤ) (u' : SettingUses) (v' : KnownValues) : Type 0 where
  pub arrays : Lists
  pub sized : Sized arrays
  pub made : Made a new arrays (run (values_at C written kept k) (code version (program_in lengths programs (get_or C.order k 0))))
  pub follows : Propagated k C written kept (entries new.writes arrays.targets arrays.written) status view u status' view' u' v'
  pub put : ListsPut (get_or C.order k 0) (new_columns new arrays) C.reads C.writes C.sources seen C.targets written C'.reads C'.writes C'.sources seen' C'.targets written'
