-- The values before and after a change whose writes are replaced, and the settings at which they differ.
use Rattle.std.specs.Prelude.{◌≡◌, true, not, List, ℕ, ◌<◌, ◌≤◌, ℤ, length, get_or, take}
use Rattle.machine.specs.Settings.{setting_count, Environment, Entry, value_in, named, after}
use Rattle.model.specs.History.{eq_z}
use Rattle.model.specs.Form.{holds}
use Rattle.model.specs.Tables.{slots}
use Rattle.writers.specs.Writers.{OfSettings}
use Rattle.values.specs.declared.KnownValues.{KnownValues}
use Rattle.values.specs.Values.{HistoryLists, IsKnown, Sizes}
use Rattle.acts.specs.Acts.{Positioned}

-- the settings and the values of the old and of the new writes, each at most 32
pub record BothWrites (old_targets : List ℕ) (old_written : List ℤ) (new_targets : List ℕ) (new_written : List ℤ) : Type 0 where
  pub old-same : length old_targets ≡ length old_written
  pub new-same : length new_targets ≡ length new_written
  pub old-short : length old_targets ≤ 32
  pub new-short : length new_targets ≤ 32
  pub old-settings : OfSettings old_targets
  pub new-settings : OfSettings new_targets

-- new writes, at most 32, for the change at a position
pub record Alterable (k : ℕ) (h : HistoryLists) (new_targets : List ℕ) (new_written : List ℤ) : Type 0 where
  pub at : Positioned k h.order (length h.writes)
  pub settings : OfSettings (slots 32 (get_or h.order k 0) (get_or h.writes (get_or h.order k 0) 0) h.targets)
  pub same : length new_targets ≡ length new_written
  pub short : length new_targets ≤ 32
  pub new-settings : OfSettings new_targets

-- with the values as of the change's position in both lists, the old writes are carried into those before and the new into those after; the settings at which
-- they differ are collected; what was known is known still
pub record Altered (old new : List Entry) (env : Environment) (earlier v : KnownValues) (count : ℕ) (list : List ℕ) : Type 0 where
  pub kept : (s : ℕ) → IsKnown earlier s → IsKnown v s
  pub sizes : Sizes v
  pub before-is : (s : ℕ) → s < setting_count → IsKnown v s → value_in v.before s ≡ after old env s
  pub after_is : (s : ℕ) → s < setting_count → IsKnown v s → value_in v.after s ≡ after new env s
  pub old-known : (s : ℕ) → named s old ≡ true → IsKnown v s
  pub new-known : (s : ℕ) → named s new ≡ true → IsKnown v s
  pub room : count ≤ length list
  pub settings : OfSettings (take count list)
  pub differing : (x : ℕ) → x < setting_count → holds x (take count list) ≡ not (eq_z (after old env x) (after new env x))
  pub renewed : (x : ℕ) → x < setting_count → holds x (take count list) ≡ true → value_in v.after x ≡ after new env x
