-- What dropping changes leaves, as functions of the lent lists.
use Rattle.std.specs.Prelude.{◌≡◌, List, ℕ, ◌≤◌, ℤ, length, get_or, set}
use Rattle.machine.specs.Settings.{setting_count}
use Rattle.model.specs.Tables.{list_in}
use Rattle.search.specs.Searches.{PlacesWithin, rank_of}
use Rattle.carrying.specs.Carrying.{Carriable, carried_first}
use Rattle.compaction.specs.Closed.{Remaining, renumbered_by}

-- what dropping relies on
pub record Droppable (held timestamps order writes targets : List ℕ) (written : List ℤ) (cutoff : List ℕ) (kept : List ℤ) : Type 0 where
  pub counted : length held ≡ 1
  pub capacity : length timestamps ≤ 4096
  pub small : get_or held 0 0 ≤ length timestamps
  pub stamped : PlacesWithin (get_or held 0 0) order (length timestamps)
  pub wrote : Carriable (get_or held 0 0) order writes targets written
  pub cut : length cutoff ≡ 1
  pub valued : length kept ≡ setting_count

-- the tables after it, and the places that remain
pub record Dropped (t : ℕ) (held timestamps order writes targets : List ℕ) (written : List ℤ) (cutoff : List ℕ) (kept : List ℤ) (found : ℕ) (held' order' cutoff' : List ℕ) (kept' : List ℤ) (places : List ℕ) : Type 0 where
  pub numbers : List ℕ
  pub remain : Remaining t timestamps (get_or held 0 0) found places numbers
  pub held-is : held' ≡ set held 0 found
  pub order_is : order' ≡ renumbered_by numbers (rank_of order timestamps t (get_or held 0 0)) (get_or held 0 0) order
  pub cutoff-is : cutoff' ≡ set cutoff 0 t
  pub kept-is : kept' ≡ carried_first (list_in writes targets written) order kept (rank_of order timestamps t (get_or held 0 0))
