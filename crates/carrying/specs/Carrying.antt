-- Writes carried into one list of values, and into two.
use Rattle.std.specs.Prelude.{◌≡◌, Bool, List, ℕ, zero, suc, ◌<◌, ℤ, length, get_or}
use Rattle.machine.specs.Settings.{value_in, Entry, carry}
use Rattle.model.specs.Tables.{slots}
use Rattle.writers.specs.Writers.{WriteLists, OfSettings}
use Rattle.search.specs.Searches.{PlacesWithin}
use Rattle.values.specs.declared.KnownValues.{KnownValues}
use Rattle.values.specs.Values.{HistoryLists, values_below, Known}

-- some writes are carried into both lists, and the same values are known
pub record Carried (writes : List Entry) (v v' : KnownValues) : Type 0 where
  pub known : v'.known ≡ v.known
  pub before-is : v'.before ≡ carry writes v.before
  pub after_is : v'.after ≡ carry writes v.after

-- the changes below a position have their writes in the tables
pub record Carriable (position : ℕ) (order writes targets : List ℕ) (written : List ℤ) : Type 0 where
  pub placed : PlacesWithin position order (length writes)
  pub listed : WriteLists writes targets written
  pub settings : (j : ℕ) → j < position → OfSettings (slots 32 (get_or order j 0) (get_or writes (get_or order j 0) 0) targets)

-- the writes of the first changes of the order list, one change after the other, carried into some values
unfoldable pub carried_first : (ℕ → List Entry) → List ℕ → List ℤ → ℕ → List ℤ
carried_first writes order values zero = values
carried_first writes order values (suc k) = carry (writes (get_or order k 0)) (carried_first writes order values k)

-- the same lists of values, of which others are known
abbrev pub knowing : List Bool → KnownValues → KnownValues
knowing known v = record { known = known; before = v.before; after = v.after }

-- the writes of the changes below a position are carried into both lists: of kept values, those as of the position, whichever are known. The same values are known
pub record CarriedBelow (position : ℕ) (h : HistoryLists) (v v' : KnownValues) : Type 0 where
  pub known : v'.known ≡ v.known
  pub right : (kept : List ℤ) (known : List Bool) → Known (value_in kept) (knowing known v) → Known (values_below h.order h.writes h.targets h.written kept position) (knowing known v')
