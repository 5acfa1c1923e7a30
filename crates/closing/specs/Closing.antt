-- Tables closed up to the places that remain, as functions of the lent lists.
use Rattle.std.specs.Prelude.{◌≡◌, List, ℕ, ℤ, pos}
use Rattle.compaction.specs.Closed.{closed, Closable}

-- one slot for each place
pub record ColumnsClosable (found : ℕ) (places timestamps status withdrawn lengths reads writes versions : List ℕ) : Type 0 where
  pub of-timestamps : Closable 1 found places timestamps
  pub of-status : Closable 1 found places status
  pub of-withdrawn : Closable 1 found places withdrawn
  pub of-lengths : Closable 1 found places lengths
  pub of-reads : Closable 1 found places reads
  pub of-writes : Closable 1 found places writes
  pub of-versions : Closable 1 found places versions

pub record ColumnsClosed (places timestamps status withdrawn lengths reads writes versions timestamps' status' withdrawn' lengths' reads' writes' versions' : List ℕ) : Type 0 where
  pub timestamps-is : timestamps' ≡ closed 1 0 places timestamps
  pub status-is : status' ≡ closed 1 0 places status
  pub withdrawn-is : withdrawn' ≡ closed 1 0 places withdrawn
  pub lengths-is : lengths' ≡ closed 1 0 places lengths
  pub reads-is : reads' ≡ closed 1 0 places reads
  pub writes-is : writes' ≡ closed 1 0 places writes
  pub versions-is : versions' ≡ closed 1 0 places versions

-- 256 or 32 slots for each place
pub record BlocksClosable (found : ℕ) (places programs sources : List ℕ) (seen : List ℤ) (targets : List ℕ) (written : List ℤ) : Type 0 where
  pub of-programs : Closable 256 found places programs
  pub of-sources : Closable 32 found places sources
  pub of-seen : Closable 32 found places seen
  pub of-targets : Closable 32 found places targets
  pub of-written : Closable 32 found places written

pub record BlocksClosed (places programs sources : List ℕ) (seen : List ℤ) (targets : List ℕ) (written : List ℤ) (programs' sources' : List ℕ) (seen' : List ℤ) (targets' : List ℕ) (written' : List ℤ) : Type 0 where
  pub programs-is : programs' ≡ closed 256 0 places programs
  pub sources-is : sources' ≡ closed 32 0 places sources
  pub seen-is : seen' ≡ closed 32 (pos 0) places seen
  pub targets-is : targets' ≡ closed 32 0 places targets
  pub written_is : written' ≡ closed 32 (pos 0) places written
