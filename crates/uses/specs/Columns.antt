-- The lists that the changes' reads and writes are looked up in, by position of the order list and by place.
use Rattle.std.specs.Prelude.{◌≡◌, Bool, List, ℕ, ◌+◌, ◌*◌, ◌<◌, ◌≤◌, length, get_or}
use Rattle.model.specs.Form.{holds}
use Rattle.model.specs.Tables.{Tables, slots}
use Rattle.writers.specs.Writers.{OfSettings}
use Rattle.uses.specs.declared.Columns as lent

-- the order list, and the counts and the settings of the read and write lists by place
pub record Columns : Type 0 where
  pub order : List ℕ
  pub reads : List ℕ
  pub sources : List ℕ
  pub writes : List ℕ
  pub targets : List ℕ

abbrev pub columns : List ℕ → List ℕ → List ℕ → List ℕ → List ℕ → Columns
columns order reads sources writes targets =
    record { order = order; reads = reads; sources = sources; writes = writes; targets = targets }

-- those that are lent
abbrev pub lent_columns : lent.Columns → Columns
lent_columns c = columns c.order.now c.reads.now c.sources.now c.writes.now c.targets.now

abbrev pub columns_of : Tables → Columns
columns_of T = columns T.order T.reads T.sources T.writes T.targets

-- the settings of a place's list
abbrev pub list_at : List ℕ → List ℕ → ℕ → List ℕ
list_at counts settings place = slots 32 place (get_or counts place 0) settings

-- does the change at a position of the order list read a setting, does it write it
abbrev pub reads_setting : Columns → ℕ → ℕ → Bool
reads_setting C s p = holds s (list_at C.reads C.sources (get_or C.order p 0))

abbrev pub writes_setting : Columns → ℕ → ℕ → Bool
writes_setting C s p = holds s (list_at C.writes C.targets (get_or C.order p 0))

-- ---- what the code relies on

-- the slots of a place behind its list hold 0
abbrev pub EmptyBehind : {A : Type 0} → A → List ℕ → List A → ℕ → Type 0
EmptyBehind z counts l place = (j : ℕ) → get_or counts place 0 ≤ j → j < 32 → get_or l (32 * place + j) z ≡ z

-- the list of a place stands in the table
pub record Listed (place : ℕ) (counts settings : List ℕ) : Type 0 where
  pub counted : place < length counts
  pub short : get_or counts place 0 ≤ 32
  pub room : 32 * place + 32 ≤ length settings
  pub rest : EmptyBehind 0 counts settings place

-- places that the tables have (a position that is not held has the first), counts of at most 32, 0 behind the lists, settings below 1,024
pub record Walkable (C : Columns) (places : ℕ) : Type 0 where
  pub small : places ≤ 4096
  pub below : (p : ℕ) → get_or C.order p 0 < places
  pub read-counts : places ≤ length C.reads
  pub read-slots : 32 * places ≤ length C.sources
  pub write-counts : places ≤ length C.writes
  pub write-slots : 32 * places ≤ length C.targets
  pub reads_short : (i : ℕ) → i < places → get_or C.reads i 0 ≤ 32
  pub writes_short : (i : ℕ) → i < places → get_or C.writes i 0 ≤ 32
  pub read-rest : (i : ℕ) → i < places → EmptyBehind 0 C.reads C.sources i
  pub write-rest : (i : ℕ) → i < places → EmptyBehind 0 C.writes C.targets i
  pub read-settings : (i : ℕ) → i < places → OfSettings (list_at C.reads C.sources i)
  pub write-settings : (i : ℕ) → i < places → OfSettings (list_at C.writes C.targets i)
