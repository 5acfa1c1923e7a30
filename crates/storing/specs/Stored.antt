-- Lists stored at a place of the tables (document 01, "Tables"): a count, and 32 slots of which those behind the list hold 0.
use Rattle.std.specs.Prelude.{◌≡◌, List, ◌++◌, ℕ, ◌+◌, ◌*◌, ◌<◌, ◌≤◌, ℤ, pos, length, get_or, set, take, drop}
use Rattle.model.specs.Tables.{pad}

-- the 32 slots of a place replaced: a list with zeros behind it
unfoldable pub replaced_by : {A : Type 0} → A → ℕ → List A → List A → List A
replaced_by z place list l = take (32 * place) l ++ pad 32 z list ++ drop (32 * place + 32) l

abbrev pub replaced : ℕ → List ℕ → List ℕ → List ℕ
replaced place list l = replaced_by 0 place list l

abbrev pub replaced_z : ℕ → List ℤ → List ℤ → List ℤ
replaced_z place list l = replaced_by (pos 0) place list l

-- the slots of a place past the first count hold 0
pub record Unused {A : Type 0} (z : A) (place count : ℕ) (l : List A) : Type 0 where
  pub empty : (j : ℕ) → count ≤ j → j < 32 → get_or l (32 * place + j) z ≡ z

-- the first count entries of a list can be stored at a place that has `old` entries
pub record Storable {A : Type 0} (z : A) (place old : ℕ) (list : List A) (count : ℕ) (l : List A) : Type 0 where
  pub small : place < 4096
  pub short : count ≤ 32
  pub old-short : old ≤ 32
  pub long : 32 ≤ length list
  pub room : 32 * place + 32 ≤ length l
  pub unused : Unused z place old l

-- the columns of one list: the counts, the settings and the values
pub record ListStorable (place count : ℕ) (new_settings : List ℕ) (new_values : List ℤ) (counts settings : List ℕ) (values : List ℤ) : Type 0 where
  pub counted : place < length counts
  pub of-settings : Storable 0 place (get_or counts place 0) new_settings count settings
  pub of_values : Storable (pos 0) place (get_or counts place 0) new_values count values

-- before and after a new list is put at a place
pub record ListPut (place count : ℕ) (new_settings : List ℕ) (new_values : List ℤ) (counts settings : List ℕ) (values : List ℤ) (counts' settings' : List ℕ) (values' : List ℤ) : Type 0 where
  pub counts-put : counts' ≡ set counts place count
  pub settings-put : settings' ≡ replaced place (take count new_settings) settings
  pub values-put : values' ≡ replaced_z place (take count new_values) values

-- new lists: their counts, and four columns of which those are the first entries
pub record NewLists : Type 0 where
  pub reads : ℕ
  pub writes : ℕ
  pub sources : List ℕ
  pub seen : List ℤ
  pub targets : List ℕ
  pub written : List ℤ

abbrev pub new_lists : ℕ → ℕ → List ℕ → List ℤ → List ℕ → List ℤ → NewLists
new_lists reads writes sources seen targets written = record { reads = reads; writes = writes; sources = sources; seen = seen; targets = targets; written = written }

-- the six columns of the lists can take new lists at a place
pub record ListsStorable (place : ℕ) (l : NewLists) (reads writes sources : List ℕ) (seen : List ℤ) (targets : List ℕ) (written : List ℤ) : Type 0 where
  pub read : ListStorable place l.reads l.sources l.seen reads sources seen
  pub wrote : ListStorable place l.writes l.targets l.written writes targets written

-- before and after new lists are put at a place
pub record ListsPut (place : ℕ) (l : NewLists) (reads writes sources : List ℕ) (seen : List ℤ) (targets : List ℕ) (written : List ℤ) (reads' writes' sources' : List ℕ) (seen' : List ℤ) (targets' : List ℕ) (written' : List ℤ) : Type 0 where
  pub read : ListPut place l.reads l.sources l.seen reads sources seen reads' sources' seen'
  pub wrote : ListPut place l.writes l.targets l.written writes targets written writes' targets' written'
