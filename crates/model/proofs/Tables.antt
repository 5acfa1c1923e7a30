-- A cabinet laid out in tables is read back.
use mathlib.Core.Path.{◌≡◌, refl, ap, ap₂}
use mathlib.Core.Bool.{Bool, true, false}
use mathlib.Core.List.{List, [], ◌∷◌, map}
use Prim.Native.Nat.{ℕ, ◌*◌, ◌/◌, ◌≤◌, ◌<◌}
use lib.IntN.{pos}
use lib.ListN.{length, get_or, drop, length-map}
use lib.Seq.{take_at}
use Rattle.machine.specs.Settings.{Entry, entries}
pub use Rattle.machine.proofs.Form.{length-short}
use Rattle.machine.proofs.Form.{length-eights}
use Rattle.machine.specs.Instruction.{code}
use Rattle.model.specs.History.{Status, New, Valid, Invalid, Change, change, timestamp, program, status, withdrawn, lists}
use Rattle.model.specs.Cabinet.{Cabinet, blank}
use Rattle.model.specs.Tables.{status_number, status_of, flag_number, flag_of, column, blocks, settings_of, values_of, encode, held_count, slots, program_at, read_entries_at, writes_at, change_at, decode}
use Rattle.model.specs.Sound.{ChangeSound, AllSound, Sound}
pub use Rattle.model.proofs.Sound.{sound-at, all_sound, none-under, under_at}
use Rattle.general.proofs.Tabulate.{tabulate-is}
use Rattle.model.proofs.Blocks.{pad-get, column-get, Fits, blocks-slots}
use Rattle.model.proofs.Entries.{entries-take, entries-columns}

-- ---- what the tables need of a sound change

fits-of : {A : Type 0} (width : ℕ) (f : Change → List A) (changes : List Change) → ((c : Change) → ChangeSound c → length (f c) ≤ width) → AllSound changes → Fits width f changes
fits-of width f [] k a = tt
fits-of width f (c ∷ changes) k a = (k c a.0, fits-of width f changes k a.1)

fits-map : {A B : Type 0} (width : ℕ) (g : A → B) (f : Change → List A) (changes : List Change) → Fits width f changes → Fits width (λ d. map g (f d)) changes
fits-map width g f [] k = tt
fits-map width g f (c ∷ changes) k = (rw length-map k.0, fits-map width g f changes k.1)

pub programs-fit : (changes : List Change) → AllSound changes → Fits 256 (λ d. (program d).bytes) changes
programs-fit changes a = fits-of 256 (λ d. (program d).bytes) changes (λ c s. length-short (program c).bytes s.sized) a

pub reads_fit : (changes : List Change) → AllSound changes → Fits 32 (λ d. (lists d).reads) changes
reads_fit changes a = fits-of 32 (λ d. (lists d).reads) changes (λ c s. s.reads.short) a

pub writes-fit : (changes : List Change) → AllSound changes → Fits 32 (λ d. (lists d).writes) changes
writes-fit changes a = fits-of 32 (λ d. (lists d).writes) changes (λ c s. s.writes.short) a

-- the two columns of lists that fit
module _ (f : Change → List Entry) (changes : List Change) (k : Fits 32 f changes) where
  pub settings-fit : Fits 32 (λ d. settings_of (f d)) changes
  settings-fit = fits-map 32 (λ (e : Entry). e.setting) f changes k

  pub values-fit : Fits 32 (λ d. values_of (f d)) changes
  values-fit = fits-map 32 (λ (e : Entry). e.value) f changes k

-- ---- reading back

-- the settings and the values of a place's list
module _ (n : ℕ) (f : Change → List Entry) (changes : List Change) (i : ℕ) (k : Fits 32 f changes) (h : i < length changes) where
  pub settings-back : slots 32 i (length (f (get_or changes i blank))) (blocks n 32 0 (λ d. settings_of (f d)) changes) ≡ settings_of (f (get_or changes i blank))
  settings-back =
      rw (← length-map (f (get_or changes i blank)) (λ (e : Entry). e.setting)) (blocks-slots n 32 0 (λ d. settings_of (f d)) changes i (settings-fit f changes k) h)

  values-back : slots 32 i (length (f (get_or changes i blank))) (blocks n 32 (pos 0) (λ d. values_of (f d)) changes) ≡ values_of (f (get_or changes i blank))
  values-back =
      rw (← length-map (f (get_or changes i blank)) (λ (e : Entry). e.value)) (blocks-slots n 32 (pos 0) (λ d. values_of (f d)) changes i (values-fit f changes k) h)

  -- the list, from its count and its two columns
  list_back : f blank ≡ [] → entries (get_or (column n 0 (λ d. length (f d)) changes) i 0) (drop (32 * i) (blocks n 32 0 (λ d. settings_of (f d)) changes)) (drop (32 * i) (blocks n 32 (pos 0) (λ d. values_of (f d)) changes)) ≡ f (get_or changes i blank)
  list_back b =
      rw (column-get n 0 (λ d. length (f d)) changes i (ap length b), ← entries-take (length (f (get_or changes i blank))), settings-back, values-back)
      (entries-columns (f (get_or changes i blank)))

pub held-count : (n : ℕ) (c : Cabinet) → held_count (encode n c) ≡ length c.changes
unfolding encode
held-count n c = refl

-- a slot of each column, at a place that is held or not
module _ (n : ℕ) (c : Cabinet) (i : ℕ) where
  pub timestamp-at : get_or (encode n c).timestamps i 0 ≡ timestamp (get_or c.changes i blank)
  unfolding encode
  timestamp-at = column-get n 0 timestamp c.changes i refl

  pub order-at : get_or (encode n c).order i 0 ≡ get_or c.order i 0
  unfolding encode
  order-at = pad-get n 0 c.order i

  pub status-at : get_or (encode n c).status i 0 ≡ status_number (status (get_or c.changes i blank))
  unfolding encode
  status-at = column-get n 0 (λ d. status_number (status d)) c.changes i refl

  pub withdrawn-at : get_or (encode n c).withdrawn i 0 ≡ flag_number (withdrawn (get_or c.changes i blank))
  unfolding encode
  withdrawn-at = column-get n 0 (λ d. flag_number (withdrawn d)) c.changes i refl

  pub length_at : get_or (encode n c).lengths i 0 ≡ length (program (get_or c.changes i blank)).bytes / 8
  unfolding encode
  length_at = column-get n 0 (λ d. length (program d).bytes / 8) c.changes i refl

  pub reads_at : get_or (encode n c).reads i 0 ≡ length (lists (get_or c.changes i blank)).reads
  unfolding encode
  reads_at = column-get n 0 (λ d. length (lists d).reads) c.changes i refl

  pub writes-at : get_or (encode n c).writes i 0 ≡ length (lists (get_or c.changes i blank)).writes
  unfolding encode
  writes-at = column-get n 0 (λ d. length (lists d).writes) c.changes i refl

  pub version-at : get_or (encode n c).versions i 0 ≡ (program (get_or c.changes i blank)).version
  unfolding encode
  version-at = column-get n 0 (λ d. (program d).version) c.changes i refl

pub status-back : (s : Status) → status_of (status_number s) ≡ s
status-back New = refl
status-back Valid = refl
status-back Invalid = refl

flag-back : (w : Bool) → flag_of (flag_number w) ≡ w
flag-back false = refl
flag-back true = refl

fields : (x : Change) → change (timestamp x) (program x) (status x) (withdrawn x) (lists x) ≡ x
fields (change t p s w l) = refl

module _ (n : ℕ) (c : Cabinet) (s : Sound n c) (i : ℕ) (h : i < length c.changes) where
  -- eight times the stored length is the program's
  pub length_back : 8 * get_or (encode n c).lengths i 0 ≡ length (program (get_or c.changes i blank)).bytes
  length_back = rw (length_at n c i) (length-eights (program (get_or c.changes i blank)).bytes (sound-at c.changes i s.each h).sized)

  pub program-back : program_at (encode n c) i ≡ program (get_or c.changes i blank)
  unfolding encode
  program-back =
      ap₂ code (version-at n c i) (rw length_back (blocks-slots n 256 0 (λ d. (program d).bytes) c.changes i (programs-fit c.changes s.each) h))

  pub reads-back : read_entries_at (encode n c) i ≡ (lists (get_or c.changes i blank)).reads
  unfolding encode
  reads-back = list_back n (λ d. (lists d).reads) c.changes i (reads_fit c.changes s.each) h refl

  pub writes-back : writes_at (encode n c) i ≡ (lists (get_or c.changes i blank)).writes
  unfolding encode
  writes-back = list_back n (λ d. (lists d).writes) c.changes i (writes-fit c.changes s.each) h refl

  -- the change at a place
  pub change-back : change_at (encode n c) i ≡ get_or c.changes i blank
  change-back =
      rw (timestamp-at n c i, program-back, status-at n c i, status-back, withdrawn-at n c i, flag-back, reads-back, writes-back)
      (fields (get_or c.changes i blank))

pub decode-encode : (n : ℕ) (c : Cabinet) → Sound n c → decode (encode n c) ≡ c
unfolding encode decode
decode-encode n c s =
    ap₂ (λ (changes : List Change) (order : List ℕ). record { changes = changes; order = order; view = c.view; cutoff = c.cutoff; kept = c.kept })
    (tabulate-is c.changes (change_at (encode n c)) blank (change-back n c s))
    (take_at c.order _ (length c.changes) s.placed.counted)
