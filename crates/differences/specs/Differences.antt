-- Where two lists of values differ, and one made the other there.
use Rattle.std.specs.Prelude.{◌≡◌, cond, List, [], ◌∷◌, ◌++◌, ℕ, ◌+◌, ◌≤◌, ℤ, length, set, take}
use Rattle.machine.specs.Settings.{value_in}
use Rattle.model.specs.History.{eq_z}

-- the settings of a list at which they differ
unfoldable pub changed_in : List ℤ → List ℤ → List ℕ → List ℕ
changed_in before after [] = []
changed_in before after (s ∷ settings) =
    cond (eq_z (value_in before s) (value_in after s)) (changed_in before after settings) (s ∷ changed_in before after settings)

-- they stand behind the first count of a list, which keeps its length, and there are `total` with those
pub record Collected (settings : List ℕ) (before after : List ℤ) (count : ℕ) (earlier : List ℕ) (total : ℕ) (changed : List ℕ) : Type 0 where
  pub bound : total ≤ count + length settings
  pub sized : length changed ≡ length earlier
  pub these : take total changed ≡ take count earlier ++ changed_in before after settings

-- at each of some settings the value before is made the value after
unfoldable pub restored : List ℕ → List ℤ → List ℤ → List ℤ
restored [] after before = before
restored (s ∷ settings) after before = restored settings after (set before s (value_in after s))
