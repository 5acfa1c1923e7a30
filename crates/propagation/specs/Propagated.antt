-- What follows new writes of a change, on the lent lists.
use Rattle.std.specs.Prelude.{◌≡◌, true, not, List, ℕ, ◌+◌, ◌<◌, ℤ, length, get_or}
use Rattle.machine.specs.Settings.{setting_count, Environment, Entry, value_in, after}
use Rattle.model.specs.History.{eq_z}
use Rattle.model.specs.Form.{holds}
use Rattle.model.specs.Tables.{list_in}
use Rattle.writers.specs.Writers.{OfSettings}
use Rattle.values.specs.declared.KnownValues.{KnownValues}
use Rattle.values.specs.Values.{HistoryLists, history_lists, values_as_of, Known, Lookable}
use Rattle.uses.specs.Columns.{Columns}
use Rattle.view_updates.specs.View.{followed}
use Rattle.marking.specs.Marks.{marked_settings}
use Rattle.uses.specs.declared.SettingUses.{SettingUses}
use Rattle.uses.specs.Uses.{Markable, Marked}
use Rattle.alterations.specs.Altered.{Alterable}

-- the history of some columns, the values written and the kept ones
abbrev pub history_by : Columns → List ℤ → List ℤ → HistoryLists
history_by C written kept = history_lists C.order C.writes C.targets written kept

-- the values as of a position, and the writes of the change at it
abbrev pub values_at : Columns → List ℤ → List ℤ → ℕ → Environment
values_at C written kept = values_as_of (history_by C written kept)

abbrev pub writes_at : Columns → List ℤ → ℕ → List Entry
writes_at C written k = list_in C.writes C.targets written (get_or C.order k 0)

-- what follows new writes relies on: those of new writes for the change at a position
pub record Propagable (k : ℕ) (C : Columns) (written kept : List ℤ) (new_targets : List ℕ) (new_written : List ℤ) (status : List ℕ) (view : List ℤ) (v : KnownValues) (u : SettingUses) : Type 0 where
  pub alterable : Alterable k (history_by C written kept) new_targets new_written
  pub lookable : Lookable k (history_by C written kept) v
  pub markable : Markable (k + 1) C status u
  pub viewed : length view ≡ setting_count
  pub small : k < 4096

-- of the settings that change, later readers are marked and the view follows; the values are those after the new writes
pub record Propagated (k : ℕ) (C : Columns) (written kept : List ℤ) (new : List Entry) (status : List ℕ) (view : List ℤ) (u : SettingUses) (status' : List ℕ) (view' : List ℤ) (u' : SettingUses) (v' : KnownValues) : Type 0 where
  pub changed : List ℕ
  pub settings : OfSettings changed
  pub differing : (x : ℕ) → x < setting_count → holds x changed ≡ not (eq_z (after (writes_at C written k) (values_at C written kept k) x) (after new (values_at C written kept k) x))
  pub renewed : (x : ℕ) → x < setting_count → holds x changed ≡ true → value_in v'.after x ≡ after new (values_at C written kept k) x
  pub marked : status' ≡ marked_settings C u.readers (k + 1) changed status
  pub uses : Marked (k + 1) C status' u u'
  pub viewed : view' ≡ followed u.writers (k + 1) v'.after changed view
  pub values : Known (after new (values_at C written kept k)) v'
