-- The tables of a sound cabinet with the change at one position replaced, and another view.
use mathlib.Core.Path.{◌≡◌, sym, ap, ap₂, ◌∙◌}
use mathlib.Core.Bool.{Bool}
use mathlib.Core.List.{List, [], ◌∷◌, ◌++◌, map}
use Prim.Native.Nat.{ℕ, suc, ◌/◌, ◌<◌, ◌≤◌}
use native.Mathlib.Omega.{arith}
use lib.IntN.{ℤ, pos}
use lib.ListN.{length, get_or, set, take, drop, length-set, length-map}
use lib.Seq.{drop-cons, map-set_same}
use Rattle.machine.specs.Settings.{Entry}
use Rattle.machine.specs.Instruction.{Code}
use Rattle.model.specs.History.{Change, timestamp, program, status, withdrawn, lists, History}
use Rattle.model.specs.Cabinet.{Cabinet, blank, changes_at, history_of, put_at, with_history}
use Rattle.model.specs.Tables.{status_number, flag_number, pad, blocks, settings_of, values_of, Tables, tables, with_turn, encode}
use Rattle.model.specs.Sound.{AllDistinct, Sound}
use Rattle.model.proofs.Blocks.{column-set, Fits, blocks-same, blocks-set}
use Rattle.model.proofs.Cabinet.{put_back, changes_at-other}
use Rattle.model.proofs.Order.{changes_at-get, below_at}
use Rattle.model.proofs.Tables.{reads_fit, writes-fit, settings-fit, values-fit, order-at}
use Rattle.marking_laws.proofs.Places.{distinct-drop, changes_at-drop, put-from}
use Rattle.storing.specs.Stored.{replaced_by, replaced, replaced_z}

-- the tables with the change at a position replaced, and another view
abbrev pub replaced_tables : Tables → ℕ → Change → List ℤ → Tables
replaced_tables T k new view =
    let place = get_or T.order k 0 in
    with_turn T
    (set T.status place (status_number (status new)))
    (set T.reads place (length (lists new).reads))
    (set T.writes place (length (lists new).writes))
    (replaced place (settings_of (lists new).reads) T.sources)
    (replaced_z place (values_of (lists new).reads) T.seen)
    (replaced place (settings_of (lists new).writes) T.targets)
    (replaced_z place (values_of (lists new).writes) T.written)
    view

-- a change in the place of another: its status and its lists may differ
pub record Replaces (new old : Change) : Type 0 where
  pub stamped : timestamp new ≡ timestamp old
  pub programmed : program new ≡ program old
  pub flagged : withdrawn new ≡ withdrawn old
  pub reads_short : length (lists new).reads ≤ 32
  pub writes_short : length (lists new).writes ≤ 32

-- ---- the lists of one place

module _ (n : ℕ) (field : Change → List Entry) (changes : List Change) (fit : Fits 32 field changes) (i : ℕ) (h : i < length changes) (new : Change) (short : length (field new) ≤ 32) where
  settings-replaced : blocks n 32 0 (λ d. settings_of (field d)) (set changes i new) ≡ replaced i (settings_of (field new)) (blocks n 32 0 (λ d. settings_of (field d)) changes)
  unfolding replaced_by
  settings-replaced = blocks-set n 32 0 (λ d. settings_of (field d)) changes i (settings-fit field changes fit) h new (rw length-map short)

  values-replaced : blocks n 32 (pos 0) (λ d. values_of (field d)) (set changes i new) ≡ replaced_z i (values_of (field new)) (blocks n 32 (pos 0) (λ d. values_of (field d)) changes)
  unfolding replaced_by
  values-replaced = blocks-set n 32 (pos 0) (λ d. values_of (field d)) changes i (values-fit field changes fit) h new (rw length-map short)

-- ---- the tables

module _ (n : ℕ) (c : Cabinet) (s : Sound n c) (k : ℕ) (h : k < length c.changes) (new : Change) where
  abbrev place : ℕ
  place = get_or (encode n c).order k 0

  abbrev later : List ℕ
  later = drop (suc k) c.order

  -- the change replaced
  abbrev now : List Change
  now = set c.changes place new

  positioned : drop k c.order ≡ place ∷ later
  positioned = drop-cons c.order k 0 (omega (arith, s.placed.counted)) ∙ ap (◌∷ later) (sym (order-at n c k))

  held_place : place < length c.changes
  held_place = rw (order-at n c k) (below_at (length c.changes) c.order k s.placed.below (omega (arith, s.placed.counted)))

  distinct : AllDistinct (place ∷ later)
  distinct = rw positioned at (distinct-drop c.order k s.placed.distinct)

  as_before : changes_at now later ≡ drop (suc k) (history_of c)
  as_before = changes_at-other c.changes place new later distinct.0 ∙ sym (changes_at-drop c.changes c.order (suc k))

  together : put_at c.order (take k (history_of c) ++ new ∷ drop (suc k) (history_of c)) c.changes ≡ now
  together =
      put-from c.changes c.order k (new ∷ drop (suc k) (history_of c))
      ∙ ap₂ (λ (places : List ℕ) (rest : History). put_at places (new ∷ rest) c.changes) positioned (sym as_before)
      ∙ put_back now later

  old : get_or (history_of c) k blank ≡ get_or c.changes place blank
  old = changes_at-get c.changes c.order k (omega (arith, s.placed.counted)) ∙ ap (λ (i : ℕ). get_or c.changes i blank) (sym (order-at n c k))

  module _ (r : Replaces new (get_or (history_of c) k blank)) (view : List ℤ) where
    -- a field that tells neither the status nor the lists
    abbrev field_of : {B : Type 0} → (ℕ → Code → Bool → B) → Change → B
    field_of g d = g (timestamp d) (program d) (withdrawn d)

    map_same : {B : Type 0} (g : ℕ → Code → Bool → B) → map (field_of g) now ≡ map (field_of g) c.changes
    map_same g = map-set_same (field_of g) c.changes place new blank ((rw (r.stamped, r.programmed, r.flagged)) ∙ ap (field_of g) old)

    laid_out : encode n (record { changes = now; order = c.order; view = view; cutoff = c.cutoff; kept = c.kept }) ≡ replaced_tables (encode n c) k new view
    unfolding encode
    laid_out =
        let read = reads_fit c.changes s.each in
        let wrote = writes-fit c.changes s.each in
        let held = ap (◌∷ []) (length-set c.changes place new) in
        let timestamps = ap (pad n 0) (map_same (λ t p w. t)) in
        let statuses = column-set n 0 (λ d. status_number (status d)) c.changes place new held_place in
        let flags = ap (pad n 0) (map_same (λ t p w. flag_number w)) in
        let lengths = ap (pad n 0) (map_same (λ t p w. length p.bytes / 8)) in
        let programs = blocks-same n 256 0 (λ d. (program d).bytes) now c.changes (map_same (λ t p w. p.bytes)) in
        let reads = column-set n 0 (λ d. length (lists d).reads) c.changes place new held_place in
        let writes = column-set n 0 (λ d. length (lists d).writes) c.changes place new held_place in
        let sources = settings-replaced n (λ d. (lists d).reads) c.changes read place held_place new r.reads_short in
        let seen = values-replaced n (λ d. (lists d).reads) c.changes read place held_place new r.reads_short in
        let targets = settings-replaced n (λ d. (lists d).writes) c.changes wrote place held_place new r.writes_short in
        let written = values-replaced n (λ d. (lists d).writes) c.changes wrote place held_place new r.writes_short in
        let versions = ap (pad n 0) (map_same (λ t p w. p.version)) in
        λ j.
        tables (held j) (timestamps j) (encode n c).order (statuses j) (flags j) (lengths j) (programs j) (reads j) (writes j) (sources j) (seen j) (targets j) (written j) view (versions j) (encode n c).cutoff c.kept

    -- the tables of the cabinet with that history
    pub replaced-tables : replaced_tables (encode n c) k new view ≡ encode n (with_history c (take k (history_of c) ++ new ∷ drop (suc k) (history_of c)) view)
    replaced-tables = sym (ap (λ (changes : List Change). encode n (record { changes = changes; order = c.order; view = view; cutoff = c.cutoff; kept = c.kept })) together ∙ laid_out)
