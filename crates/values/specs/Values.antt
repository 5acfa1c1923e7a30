-- The values as of a position of the order list, and which of them are known.
use Rattle.std.specs.Prelude.{◌≡◌, true, false, List, ℕ, ◌<◌, ℤ, length, get_or}
use Rattle.machine.specs.Settings.{setting_count, Environment, value_in, ◌or_else◌}
use Rattle.writers.specs.Writers.{previous_write, WriteLists}
use Rattle.search.specs.Searches.{PlacesWithin}
use Rattle.values.specs.declared.History.{History}
use Rattle.values.specs.declared.KnownValues.{KnownValues}

-- the order list, the write lists by place, and the kept values
pub record HistoryLists : Type 0 where
  pub order : List ℕ
  pub writes : List ℕ
  pub targets : List ℕ
  pub written : List ℤ
  pub kept : List ℤ

abbrev pub history_lists : List ℕ → List ℕ → List ℕ → List ℤ → List ℤ → HistoryLists
history_lists order writes targets written kept =
    record { order = order; writes = writes; targets = targets; written = written; kept = kept }

-- those that are lent
abbrev pub lists_of : History → HistoryLists
lists_of h = history_lists h.order.now h.writes.now h.targets.now h.written.now h.kept.now

-- the values as of a position of the order list: those of previous writes, or the kept ones
abbrev pub values_below : List ℕ → List ℕ → List ℕ → List ℤ → List ℤ → ℕ → Environment
values_below order writes targets written kept position s = previous_write order writes targets written s position or_else value_in kept s

abbrev pub values_as_of : HistoryLists → ℕ → Environment
values_as_of h = values_below h.order h.writes h.targets h.written h.kept

-- ---- which values are known

-- the value of a setting is known
abbrev pub IsKnown : KnownValues → ℕ → Type 0
IsKnown v s = get_or v.known s false ≡ true

-- those of a list are
pub record AllKnown (v : KnownValues) (settings : List ℕ) : Type 0 where
  pub each : (i : ℕ) → i < length settings → IsKnown v (get_or settings i 0)

-- a note and two values for each setting
pub record Sizes (v : KnownValues) : Type 0 where
  pub notes : length v.known ≡ setting_count
  pub befores : length v.before ≡ setting_count
  pub afters : length v.after ≡ setting_count

-- the known values stand in both lists
pub record Known (env : Environment) (v : KnownValues) : Type 0 where
  pub sizes : Sizes v
  pub before-is : (s : ℕ) → s < setting_count → IsKnown v s → value_in v.before s ≡ env s
  pub after_is : (s : ℕ) → s < setting_count → IsKnown v s → value_in v.after s ≡ env s

-- values can be looked up as of a position: the write lists can be searched, and those noted as known are right
pub record Lookable (position : ℕ) (h : HistoryLists) (v : KnownValues) : Type 0 where
  pub placed : PlacesWithin position h.order (length h.writes)
  pub listed : WriteLists h.writes h.targets h.written
  pub kept-sized : length h.kept ≡ setting_count
  pub right : Known (values_as_of h position) v

-- after values were looked up, those known are right, and what was known is known still
pub record Looked (env : Environment) (earlier v : KnownValues) : Type 0 where
  pub right : Known env v
  pub kept : (s : ℕ) → IsKnown earlier s → IsKnown v s
