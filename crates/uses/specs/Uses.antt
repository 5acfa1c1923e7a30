-- How far each setting matters: up to where it has Valid readers, up to where it has writers, and how far it is settled. All speak of the positions of the order list from a first one on.
use Rattle.std.specs.Prelude.{◌≡◌, Bool, true, false, cond, ◌&&◌, List, [], ◌∷◌, ◌⊎◌, ℕ, zero, suc, ◌-◌, ◌<◌, ◌≤◌, eqb, leb, length, get_or, set}
use Rattle.machine.specs.Settings.{setting_count}
use Rattle.model.specs.Tables.{Tables, held_count}
use Rattle.uses.specs.declared.SettingUses.{SettingUses}
use Rattle.uses.specs.Columns.{Columns, columns_of, reads_setting, writes_setting, Walkable}

-- ---- numbers of the settings

-- a number for each setting
pub record Numbers (numbers : List ℕ) (number : ℕ → ℕ) : Type 0 where
  pub sized : length numbers ≡ setting_count
  pub each : (s : ℕ) → s < setting_count → get_or numbers s 0 ≡ number s

-- the number of each of some settings stored
unfoldable pub numbered : List ℕ → ℕ → List ℕ → List ℕ
numbered [] v numbers = numbers
numbered (s ∷ settings) v numbers = numbered settings v (set numbers s v)

-- one past the last position, from a first one on and below a count, that passes a test, or 0
unfoldable pub last_from : (ℕ → Bool) → ℕ → ℕ → ℕ
last_from test from zero = 0
last_from test from (suc p) = cond (leb from p && test p) (suc p) (last_from test from p)

-- is the change at a position Valid, and does it read a setting
abbrev pub reads_valid : Columns → List ℕ → ℕ → ℕ → Bool
reads_valid C status s p = eqb (get_or status (get_or C.order p 0) 0) 1 && reads_setting C s p

-- from a first position on and below a count: of each setting one past the last Valid change that reads it, and one past the last change that writes it
pub record LastUses (from count : ℕ) (C : Columns) (status readers writers : List ℕ) : Type 0 where
  pub read : Numbers readers (λ s. last_from (reads_valid C status s) from count)
  pub wrote : Numbers writers (λ s. last_from (writes_setting C s) from count)

-- ---- what is known of the settings while turns go up the order list

-- below the count, a Valid change that reads a setting stands below the setting's first number
pub record ReadersEnd (from count : ℕ) (C : Columns) (status readers : List ℕ) : Type 0 where
  pub sized : length readers ≡ setting_count
  pub within : (s : ℕ) → s < setting_count → get_or readers s 0 ≤ count
  pub bound : (s p : ℕ) → s < setting_count → from ≤ p → p < count → reads_valid C status s p ≡ true → p < get_or readers s 0

-- a change that writes a setting stands below its second number; where that is above the first position, the change before it writes the setting
pub record WritersEnd (from count : ℕ) (C : Columns) (writers : List ℕ) : Type 0 where
  pub sized : length writers ≡ setting_count
  pub within : (s : ℕ) → s < setting_count → get_or writers s 0 ≤ count
  pub bound : (s p : ℕ) → s < setting_count → from ≤ p → p < count → writes_setting C s p ≡ true → p < get_or writers s 0
  pub last : (s : ℕ) → s < setting_count → from < get_or writers s 0 → writes_setting C s (get_or writers s 0 - 1) ≡ true

-- below a setting's third number no Valid change reads it; where that is above the first position, the change before it writes the setting, or the readers end there
pub record Settled (from : ℕ) (C : Columns) (status readers settled : List ℕ) : Type 0 where
  pub sized : length settled ≡ setting_count
  pub within : (s : ℕ) → s < setting_count → get_or settled s 0 ≤ get_or readers s 0
  pub unread : (s p : ℕ) → s < setting_count → from ≤ p → p < get_or settled s 0 → reads_valid C status s p ≡ true → ⊥
  pub ends : (s : ℕ) → s < setting_count → from < get_or settled s 0 → (writes_setting C s (get_or settled s 0 - 1) ≡ true) ⊎ (get_or readers s 0 ≤ get_or settled s 0)

-- the three for some tables
pub record Uses (from : ℕ) (T : Tables) (u : SettingUses) : Type 0 where
  pub readers-end : ReadersEnd from (held_count T) (columns_of T) T.status u.readers
  pub writers-end : WritersEnd from (held_count T) (columns_of T) u.writers
  pub settled-to : Settled from (columns_of T) T.status u.readers u.settled

-- no uses are noted
pub record NoUses (u : SettingUses) : Type 0 where
  pub readers : Numbers u.readers (λ s. 0)
  pub writers : Numbers u.writers (λ s. 0)

-- nothing is noted
pub record NoneNoted (u : SettingUses) : Type 0 where
  pub uses : NoUses u
  pub settled : Numbers u.settled (λ s. 0)

-- what is noted of the settings: all that is needed, or nothing yet
pub record Noted (noted : Bool) (from : ℕ) (T : Tables) (u : SettingUses) : Type 0 where
  pub uses : noted ≡ true → Uses from T u
  pub none : noted ≡ false → NoneNoted u

-- what noting the last uses relies on: positions of the order list, walks within the tables, and no number where nothing is noted
pub record Notable (noted : Bool) (from count : ℕ) (C : Columns) (places : ℕ) (u : SettingUses) : Type 0 where
  pub within : from ≤ count
  pub small : count ≤ 4096
  pub listed : count ≤ length C.order
  pub walkable : Walkable C places
  pub none : noted ≡ false → NoUses u

-- what it gives: the numbers as they were, where they were noted, or the last uses
pub record UsesNoted (noted : Bool) (from count : ℕ) (C : Columns) (status : List ℕ) (u u' : SettingUses) : Type 0 where
  pub kept : noted ≡ true → u' ≡ u
  pub first : noted ≡ false → LastUses from count C status u'.readers u'.writers
  pub settled : u'.settled ≡ u.settled

-- what marking some settings relies on: walks within the order list, and what is settled
pub record Markable (from : ℕ) (C : Columns) (status : List ℕ) (u : SettingUses) : Type 0 where
  pub walkable : Walkable C (length status)
  pub within : (s : ℕ) → s < setting_count → get_or u.readers s 0 ≤ length C.order
  pub settled-to : Settled from C status u.readers u.settled

-- what marking leaves: what is settled, and where readers and writers end as before
pub record Marked (from : ℕ) (C : Columns) (status : List ℕ) (u u' : SettingUses) : Type 0 where
  pub readers : u'.readers ≡ u.readers
  pub writers : u'.writers ≡ u.writers
  pub settled-to : Settled from C status u'.readers u'.settled
