-- Lent write lists, and what the search for a writer gives of them.
use Rattle.std.specs.Prelude.{◌≡◌, List, ℕ, zero, suc, ◌*◌, ◌<◌, ◌≤◌, ℤ, length, get_or}
use Rattle.std.proofs.Math.Option.{Option, none}
use Rattle.machine.specs.Settings.{setting_count, ◌or_if◌, lookup}
use Rattle.model.specs.Tables.{list_in}

-- write lists of at most 32 entries for each of at most 4,096 places
pub record WriteLists (writes targets : List ℕ) (written : List ℤ) : Type 0 where
  pub capacity : length writes ≤ 4096
  pub target-slots : length targets ≡ 32 * length writes
  pub value-slots : length written ≡ 32 * length writes
  pub short : (i : ℕ) → get_or writes i 0 ≤ 32

-- each of a list is a setting
pub record OfSettings (settings : List ℕ) : Type 0 where
  pub below : (i : ℕ) → i < length settings → get_or settings i 0 < setting_count

-- the value of the highest write of setting s below a position of the order list
unfoldable pub previous_write : List ℕ → List ℕ → List ℕ → List ℤ → ℕ → ℕ → Option ℤ
previous_write order writes targets written s zero = none
previous_write order writes targets written s (suc k) =
    lookup (list_in writes targets written (get_or order k 0)) s or_if previous_write order writes targets written s k
