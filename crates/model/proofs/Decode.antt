-- Tables of the right lengths that pass every test of form hold a sound cabinet, and are its layout.
use mathlib.Core.Path.{◌≡◌, refl, sym, ap, ap₂, ◌∙◌}
use mathlib.Core.Bool.{true}
use mathlib.Core.List.{List, [], ◌∷◌}
use Prim.Native.Nat.{ℕ, zero, suc, ◌-◌, ◌*◌, ◌/◌, ◌≤◌, ◌<◌}
use native.Mathlib.Omega.{arith}
use lib.IntN.{ℤ, pos}
use lib.ListN.{length, get_or, take, drop, replicate, length-drop}
use lib.Seq.{length-take-le, get_or-take}
use Rattle.machine.specs.Settings.{Entry, entries, Bounded}
use Rattle.machine.proofs.Form.{length-fits}
use Rattle.general.specs.Lists.{tabulate}
use Rattle.model.specs.History.{Change, timestamp, program, status, withdrawn, lists}
use Rattle.model.specs.Cabinet.{blank, history_of}
use Rattle.model.specs.Tables.{Tables, status_number, status_of, flag_number, flag_of, pad, column, blocks, settings_of, values_of, encode, held_count, cutoff_in, slots, program_at, change_at, decode}
use Rattle.model.specs.Form.{all_zero, all_zero_z}
use Rattle.model.specs.Sound.{Rising, ChangeSound, Below, Placed, Sound}
use Rattle.general.proofs.Tabulate.{length-tabulate, get_d_tabulate}
use Rattle.model.proofs.Blocks.{pad-is, column-is, blocks_is, slots-room, slots_length, rest_of-length, slots-pad}
use Rattle.model.proofs.Entries.{settings-entries, values-entries, length-entries, distinct_of}
use Rattle.model.proofs.Tests.{zeros, zeros_z, Lengths, TestedList, FormTests}
use Rattle.model.proofs.Order.{changes_at-length, changes_at-get, rising-of, rising-distinct, below_of, placed_of}
use Rattle.model.proofs.Tables.{all_sound, none-under}

-- ---- a list of entries

-- the list that a count and two columns have at a place
abbrev list_at : List ℕ → List ℕ → List ℤ → ℕ → List Entry
list_at counts settings values i = entries (get_or counts i 0) (drop (32 * i) settings) (drop (32 * i) values)

-- tables can hold it, and its two columns are its layout
record Laid (counts settings : List ℕ) (values : List ℤ) (i : ℕ) : Type 0 where
  bounded : Bounded (list_at counts settings values i)
  count : length (list_at counts settings values i) ≡ get_or counts i 0
  settings-block : slots 32 i 32 settings ≡ pad 32 0 (settings_of (list_at counts settings values i))
  values-block : slots 32 i 32 values ≡ pad 32 (pos 0) (values_of (list_at counts settings values i))

list-laid : (n : ℕ) (counts settings : List ℕ) (values : List ℤ) → length settings ≡ 32 * n → length values ≡ 32 * n → (i : ℕ) → i < n → TestedList counts settings values i → Laid counts settings values i
list-laid n counts settings values es ev i h l =
    let k = get_or counts i 0 in
    let settings-room = slots-room n 32 i k settings es h l.short in
    let values-room = slots-room n 32 i k values ev h l.short in
    let settings-taken = settings-entries k (drop (32 * i) settings) (drop (32 * i) values) values-room in
    let values-taken = values-entries k (drop (32 * i) settings) (drop (32 * i) values) settings-room in
    let count = length-entries k (drop (32 * i) settings) (drop (32 * i) values) settings-room values-room in
    record {
      bounded = record { short = omega arith; distinct = distinct_of _ (rw settings-taken l.distinct) };
      count = count;
      settings-block = rw settings-taken (slots-pad n 32 i k settings es h l.short 0 (zeros _ _ (rest_of-length n 32 i k settings es h l.short) l.settings-rest));
      values-block = rw values-taken (slots-pad n 32 i k values ev h l.short (pos 0) (zeros_z _ _ (rest_of-length n 32 i k values ev h l.short) l.values-rest));
    }

-- an empty list
list-empty : (counts settings : List ℕ) (values : List ℤ) (i : ℕ) → get_or counts i 0 ≡ 0 → list_at counts settings values i ≡ []
unfolding entries
list-empty counts settings values i e = ap (λ (k : ℕ). entries k (drop (32 * i) settings) (drop (32 * i) values)) e

-- ---- a place

status-known : (s : ℕ) → s ≤ 2 → status_number (status_of s) ≡ s
status-known zero h = refl
status-known (suc zero) h = refl
status-known (suc (suc zero)) h = refl
status-known (suc (suc (suc s))) h = absurd (omega arith)

flag-known : (w : ℕ) → w ≤ 1 → flag_number (flag_of w) ≡ w
flag-known zero h = refl
flag-known (suc zero) h = refl
flag-known (suc (suc w)) h = absurd (omega arith)

module _ (n : ℕ) (T : Tables) (g : Lengths n T) (f : FormTests n T) (i : ℕ) (h : i < held_count T) where
  within : i < n
  within = omega arith

  program-short : 8 * get_or T.lengths i 0 ≤ 256
  program-short = omega (arith, (f.programs i h).short)

  program-length : length (program_at T i).bytes ≡ 8 * get_or T.lengths i 0
  program-length = slots_length n 256 i (8 * get_or T.lengths i 0) T.programs g.programs within program-short

  program-block : slots 256 i 256 T.programs ≡ pad 256 0 (program_at T i).bytes
  program-block =
      slots-pad n 256 i (8 * get_or T.lengths i 0) T.programs g.programs within program-short 0
      (zeros _ _ (rest_of-length n 256 i (8 * get_or T.lengths i 0) T.programs g.programs within program-short) (f.programs i h).rest)

  reads-laid : Laid T.reads T.sources T.seen i
  reads-laid = list-laid n T.reads T.sources T.seen g.sources g.seen i within (f.reads i h)

  writes-laid : Laid T.writes T.targets T.written i
  writes-laid = list-laid n T.writes T.targets T.written g.targets g.written i within (f.writes i h)

  change-sound : ChangeSound (change_at T i)
  change-sound =
      record {
        above = (f.heads i h).above;
        below = (f.heads i h).below;
        sized = length-fits (program_at T i).bytes (get_or T.lengths i 0) (f.programs i h).short program-length;
        versioned = (f.heads i h).version;
        formed = (f.programs i h).formed;
        reads = reads-laid.bounded;
        writes = writes-laid.bounded;
        new =
            λ e.
            let none = (f.heads i h).new (sym (status-known _ (f.heads i h).status) ∙ ap status_number e) in
            ap₂ (λ (r w : List Entry). record { reads = r; writes = w }) (list-empty T.reads T.sources T.seen i none.0) (list-empty T.writes T.targets T.written i none.1);
      }

-- ---- the cabinet

one-slot : (l : List ℕ) → length l ≡ 1 → get_or l 0 0 ∷ [] ≡ l
one-slot [] e = absurd (omega arith)
one-slot (x ∷ []) e = refl
one-slot (x ∷ y ∷ l) e = absurd (omega arith)

zeros-from : (l : List ℕ) (n k : ℕ) → length l ≡ n → all_zero (drop k l) ≡ true → drop k l ≡ replicate (n - k) 0
zeros-from l n k e z = zeros _ _ (length-drop k l ∙ ap (◌- k) e) z

zeros_z-from : (l : List ℤ) (n k : ℕ) → length l ≡ n → all_zero_z (drop k l) ≡ true → drop k l ≡ replicate (n - k) (pos 0)
zeros_z-from l n k e z = zeros_z _ _ (length-drop k l ∙ ap (◌- k) e) z

abbrev held_changes : Tables → List Change
held_changes T = tabulate (held_count T) (change_at T)

module _ (n : ℕ) (T : Tables) (g : Lengths n T) (f : FormTests n T) where
  held-length : length (held_changes T) ≡ held_count T
  held-length = length-tabulate (held_count T) (change_at T)

  held-get : (i : ℕ) → i < held_count T → get_or (held_changes T) i blank ≡ change_at T i
  held-get i h = get_d_tabulate (held_count T) (change_at T) i blank h

  order-length : length (take (held_count T) T.order) ≡ held_count T
  order-length = length-take-le (held_count T) T.order (omega arith)

  order-get : (k : ℕ) → k < held_count T → get_or (take (held_count T) T.order) k 0 ≡ get_or T.order k 0
  order-get k h = get_or-take (held_count T) T.order k 0 h

  history-length : length (history_of (decode T)) ≡ held_count T
  unfolding decode
  history-length = changes_at-length (held_changes T) (take (held_count T) T.order) ∙ order-length

  history-get : (k : ℕ) → k < held_count T → get_or (history_of (decode T)) k blank ≡ change_at T (get_or T.order k 0)
  unfolding decode
  history-get k h =
      changes_at-get (held_changes T) (take (held_count T) T.order) k (rw order-length h)
      ∙ ap (λ (i : ℕ). get_or (held_changes T) i blank) (order-get k h)
      ∙ held-get (get_or T.order k 0) (f.places k h)

  history-rising : Rising 0 (history_of (decode T))
  history-rising =
      rising-of (history_of (decode T)) 0
      (λ h. let h' : 0 < held_count T = rw history-length at h in rw (history-get 0 h') (f.heads (get_or T.order 0 0) (f.places 0 h')).above)
      (λ k h. let h' : k < held_count T = rw history-length at h in rw (history-get k h') (f.heads (get_or T.order k 0) (f.places k h')).below)
      (λ k h. let h' : suc k < held_count T = rw history-length at h in rw (history-get k (omega arith), history-get (suc k) h') (f.rising k h'))

  decode-placed : Placed (decode T)
  unfolding decode
  decode-placed =
      let order = take (held_count T) T.order in
      let distinct = rising-distinct (held_changes T) order 0 history-rising in
      let below : Below (held_count T) order = below_of (held_count T) order (λ k h. let h' : k < held_count T = rw order-length at h in rw (order-get k h') (f.places k h')) in
      placed_of (decode T) (order-length ∙ sym held-length) (rw held-length below) distinct

  pub sound-decode : Sound n (decode T)
  unfolding decode
  sound-decode =
      record {
        some-capacity = g.some-capacity;
        capacity = g.capacity;
        small = rw held-length f.small;
        each = all_sound (held_changes T) (λ i h. let h' : i < held_count T = rw held-length at h in rw (held-get i h') (change-sound n T g f i h'));
        placed = decode-placed;
        rising = history-rising;
        viewed = g.view;
        cut = f.cut;
        uncut = none-under (cutoff_in T) (held_changes T) (λ i h. let h' : i < held_count T = rw held-length at h in rw (held-get i h') (f.uncut i h'));
        kept-sized = g.kept;
      }

  -- ---- its layout

  column-back : (l : List ℕ) (field : Change → ℕ) → field blank ≡ 0 → length l ≡ n → ((i : ℕ) → i < held_count T → get_or l i 0 ≡ field (change_at T i)) → all_zero (drop (held_count T) l) ≡ true → column n 0 field (held_changes T) ≡ l
  column-back l field b e each z =
      sym (column-is n 0 field (held_changes T) l b e (rw held-length f.small)
      (λ i h. let h' : i < held_count T = rw held-length at h in each i h' ∙ ap field (sym (held-get i h')))
      (rw held-length (zeros-from l n (held_count T) e z)))

  blocks-back : {A : Type 0} (width : ℕ) (z : A) (field : Change → List A) (l : List A) → length l ≡ width * n → ((i : ℕ) → i < held_count T → slots width i width l ≡ pad width z (field (change_at T i))) → drop (width * held_count T) l ≡ replicate (width * n - width * held_count T) z → blocks n width z field (held_changes T) ≡ l
  blocks-back width z field l e each rest =
      sym (blocks_is n width z field (held_changes T) l e (rw held-length f.small)
      (λ i h. let h' : i < held_count T = rw held-length at h in each i h' ∙ ap (λ (c : Change). pad width z (field c)) (sym (held-get i h')))
      (rw held-length rest))

  pub encode-back : encode n (decode T) ≡ T
  unfolding encode decode
  encode-back =
      let u = f.unused in
      λ j.
      record {
        held = (ap (◌∷ []) held-length ∙ one-slot T.held g.held) j;
        timestamps = column-back T.timestamps timestamp refl g.timestamps (λ i h. refl) u.timestamps j;
        order = sym (pad-is n 0 (held_count T) T.order g.order f.small (zeros-from _ _ _ g.order u.order)) j;
        status = column-back T.status (λ d. status_number (status d)) refl g.status (λ i h. sym (status-known (get_or T.status i 0) (f.heads i h).status)) u.status j;
        withdrawn = column-back T.withdrawn (λ d. flag_number (withdrawn d)) refl g.withdrawn (λ i h. sym (flag-known (get_or T.withdrawn i 0) (f.heads i h).withdrawn)) u.withdrawn j;
        lengths = column-back T.lengths (λ d. length (program d).bytes / 8) refl g.lengths (λ i h. omega (arith, program-length n T g f i h)) u.lengths j;
        programs = blocks-back 256 0 (λ d. (program d).bytes) T.programs g.programs (program-block n T g f) (zeros-from _ _ _ g.programs u.programs) j;
        reads = column-back T.reads (λ d. length (lists d).reads) refl g.reads (λ i h. sym (reads-laid n T g f i h).count) u.reads j;
        writes = column-back T.writes (λ d. length (lists d).writes) refl g.writes (λ i h. sym (writes-laid n T g f i h).count) u.writes j;
        sources = blocks-back 32 0 (λ d. settings_of (lists d).reads) T.sources g.sources (λ i h. (reads-laid n T g f i h).settings-block) (zeros-from _ _ _ g.sources u.sources) j;
        seen = blocks-back 32 (pos 0) (λ d. values_of (lists d).reads) T.seen g.seen (λ i h. (reads-laid n T g f i h).values-block) (zeros_z-from _ _ _ g.seen u.seen) j;
        targets = blocks-back 32 0 (λ d. settings_of (lists d).writes) T.targets g.targets (λ i h. (writes-laid n T g f i h).settings-block) (zeros-from _ _ _ g.targets u.targets) j;
        written = blocks-back 32 (pos 0) (λ d. values_of (lists d).writes) T.written g.written (λ i h. (writes-laid n T g f i h).values-block) (zeros_z-from _ _ _ g.written u.written) j;
        view = T.view;
        versions = column-back T.versions (λ d. (program d).version) refl g.versions (λ i h. refl) u.versions j;
        cutoff = one-slot T.cutoff g.cutoff j;
        kept = T.kept;
      }
