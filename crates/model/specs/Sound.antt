-- What a cabinet in form has: what proofs use. Nobody has to believe it: tables in form hold such a cabinet, and such a cabinet is laid out in form (proofs/Form).
use Rattle.std.specs.Prelude.{◌≡◌, true, List, [], ◌∷◌, map, ℕ, ◌<◌, ◌≤◌, length}
use Rattle.machine.specs.Settings.{setting_count, Bounded}
use Rattle.machine.specs.Form.{length_fits, all_well_formed}
use Rattle.model.specs.History.{infinity, New, empty, Change, timestamp, program, status, lists, History}
use Rattle.model.specs.Cabinet.{Cabinet, In, history_of}

-- timestamps rise above a bound, and are below infinity
abbrev pub Rising : ℕ → History → Type 0
Rising b [] = Unit {0}
Rising b (c ∷ h) = (b < timestamp c) × (timestamp c < infinity) × Rising (timestamp c) h

-- a change that a place can hold
pub record ChangeSound (c : Change) : Type 0 where
  pub above : 0 < timestamp c
  pub below : timestamp c < infinity
  pub sized : length_fits (program c).bytes ≡ true
  pub versioned : (program c).version ≤ 1
  pub formed : all_well_formed (program c).bytes ≡ true
  pub reads : Bounded (lists c).reads
  pub writes : Bounded (lists c).writes
  pub new : status c ≡ New → lists c ≡ empty

abbrev pub AllSound : List Change → Type 0
AllSound [] = Unit {0}
AllSound (c ∷ changes) = ChangeSound c × AllSound changes

-- no timestamp is below a cutoff
abbrev pub NoneUnder : ℕ → List ℕ → Type 0
NoneUnder b [] = Unit {0}
NoneUnder b (t ∷ timestamps) = (b ≤ t) × NoneUnder b timestamps

-- ---- places

abbrev pub Below : ℕ → List ℕ → Type 0
Below n [] = Unit {0}
Below n (i ∷ places) = (i < n) × Below n places

abbrev pub NotIn : ℕ → List ℕ → Type 0
NotIn i [] = Unit {0}
NotIn i (j ∷ places) = ¬ (i ≡ j) × NotIn i places

abbrev pub AllDistinct : List ℕ → Type 0
AllDistinct [] = Unit {0}
AllDistinct (i ∷ places) = NotIn i places × AllDistinct places

-- the order list has every held place once
pub record Placed (c : Cabinet) : Type 0 where
  pub counted : length c.order ≡ length c.changes
  pub below : Below (length c.changes) c.order
  pub distinct : AllDistinct c.order
  pub covers : (i : ℕ) → i < length c.changes → In i c.order

-- a cabinet that tables of capacity n can hold
pub record Sound (n : ℕ) (c : Cabinet) : Type 0 where
  pub some-capacity : 1 ≤ n
  pub capacity : n ≤ 4096
  pub small : length c.changes ≤ n
  pub each : AllSound c.changes
  pub placed : Placed c
  pub rising : Rising 0 (history_of c)
  pub viewed : length c.view ≡ setting_count
  pub cut : c.cutoff < infinity
  pub uncut : NoneUnder c.cutoff (map timestamp c.changes)
  pub kept-sized : length c.kept ≡ setting_count
