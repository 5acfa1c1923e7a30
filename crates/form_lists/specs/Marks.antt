-- What the test of the places' lists asks of the tables, and the marks of the test that no setting stands twice.
use Rattle.std.specs.Prelude.{◌≡◌, Bool, not, ◌&&◌, List, ℕ, ◌*◌, ◌<◌, ◌≤◌, ltb, eqb, ℤ, length, get_or}
use Rattle.machine.specs.Settings.{setting_count}

-- at most 4,096 places, each with a count, 32 settings and 32 values
pub record ListSlots (places : ℕ) (counts settings : List ℕ) (values : List ℤ) : Type 0 where
  pub few : places ≤ 4096
  pub counted : places ≤ length counts
  pub setting-slots : 32 * places ≤ length settings
  pub value-slots : 32 * places ≤ length values

-- a mark for each setting, below a row's number
pub record MarkedBelow (row : ℕ) (marks : List ℕ) : Type 0 where
  pub sized : length marks ≡ setting_count
  pub below : (s : ℕ) → get_or marks s 0 < row

-- a setting that is not marked with a row's number
abbrev pub is_new : ℕ → ℕ → List ℕ → Bool
is_new row s marks = ltb s setting_count && not (eqb (get_or marks s 0) row)
