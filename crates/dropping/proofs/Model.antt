-- A cutoff on tables in form: what its parts rely on, and the tables that it leaves.
use mathlib.Core.Path.{◌≡◌, sym, ap, ap₂, ◌∙◌}
use mathlib.Core.List.{List, [], ◌∷◌}
use Prim.Native.Nat.{ℕ, ◌*◌, ◌/◌, ◌≤◌}
use native.Mathlib.Nat.{mul-le-mul_left}
use native.Mathlib.Omega.{arith}
use lib.IntN.{ℤ, pos}
use lib.ListN.{length, get_or, set, take}
use lib.Seq.{take-length}
use Rattle.model.specs.History.{Change, timestamp, program, status, withdrawn, lists}
use Rattle.model.specs.Cabinet.{Cabinet, blank, remaining, renumbered, cut_at}
use Rattle.model.specs.Tables.{Tables, tables, with_cutoff, status_number, flag_number, pad, column, blocks, settings_of, values_of, encode, held_count, decode}
use Rattle.model.specs.Form.{Formed}
use Rattle.model.proofs.Form.{facts}
use Rattle.model.proofs.Blocks.{Fits}
use Rattle.model.proofs.Tables.{programs-fit, reads_fit, writes-fit, settings-fit, values-fit, timestamp-at}
use Rattle.search.proofs.Steps.{rank-within}
use Rattle.writers.proofs.Model.{tested-settings, placed-writes, listed}
use Rattle.search.proofs.Model.{rank_in, placed-stamps, held-changes, rank-splits}
use Rattle.compaction.specs.Closed.{remaining_below, Remaining, closed, Closable, renumbered_by}
use Rattle.compaction.proofs.Places.{closable}
use Rattle.compaction.proofs.Model.{closed-to, blocks-closed, column-closed, order-renumbered}
use Rattle.closing.specs.Closing.{ColumnsClosable, ColumnsClosed, BlocksClosable, BlocksClosed}
use Rattle.dropping.specs.Dropping.{Droppable, Dropped}
use Rattle.dropping.proofs.Kept.{kept-as-of}

module _ {n : ℕ} {T : Tables} (g : Formed n T) (t : ℕ) where
  -- ---- what the parts rely on

  pub droppable : Droppable T.held T.timestamps T.order T.writes T.targets T.written T.cutoff T.kept
  droppable =
      let f = (facts g).form in
      let s = (facts g).sizes in
      record {
        counted = s.held;
        capacity = omega (arith, s.timestamps, s.capacity);
        small = omega (arith, s.timestamps, f.small);
        stamped = placed-stamps g;
        wrote =
            record {
              placed = placed-writes g (held_count T) (omega arith);
              listed = listed g;
              settings = λ k h. tested-settings _ (f.writes (get_or T.order k 0) (f.places k h)).distinct;
            };
        cut = s.cutoff;
        valued = s.kept;
      }

  module _ {found : ℕ} {places numbers : List ℕ} (r : Remaining t T.timestamps (held_count T) found places numbers) where
    -- a table with a block for each place
    table-closable : {A : Type 0} (width : ℕ) (l : List A) → length l ≡ width * n → Closable width found places l
    table-closable width l e = closable r width l (omega (arith, (facts g).form.small, (facts g).sizes.capacity)) (omega (arith, e, mul-le-mul_left width (facts g).form.small))

    pub columns-closable : ColumnsClosable found places T.timestamps T.status T.withdrawn T.lengths T.reads T.writes T.versions
    columns-closable =
        let s = (facts g).sizes in
        record {
          of-timestamps = table-closable 1 T.timestamps (omega (arith, s.timestamps));
          of-status = table-closable 1 T.status (omega (arith, s.status));
          of-withdrawn = table-closable 1 T.withdrawn (omega (arith, s.withdrawn));
          of-lengths = table-closable 1 T.lengths (omega (arith, s.lengths));
          of-reads = table-closable 1 T.reads (omega (arith, s.reads));
          of-writes = table-closable 1 T.writes (omega (arith, s.writes));
          of-versions = table-closable 1 T.versions (omega (arith, s.versions));
        }

    pub blocks-closable : BlocksClosable found places T.programs T.sources T.seen T.targets T.written
    blocks-closable =
        let s = (facts g).sizes in
        record {
          of-programs = table-closable 256 T.programs s.programs;
          of-sources = table-closable 32 T.sources s.sources;
          of-seen = table-closable 32 T.seen s.seen;
          of-targets = table-closable 32 T.targets s.targets;
          of-written = table-closable 32 T.written s.written;
        }

    -- ---- tables closed up

    abbrev c : Cabinet
    c = decode T

    abbrev left : List ℕ
    left = remaining_below t T.timestamps (length c.changes)

    stamps : (i : ℕ) → get_or T.timestamps i 0 ≡ timestamp (get_or c.changes i blank)
    stamps i = ap (λ (U : Tables). get_or U.timestamps i 0) (sym (facts g).laid) ∙ timestamp-at n c i

    places-left : take found places ≡ left
    places-left = r.listed ∙ ap (remaining_below t T.timestamps) (sym (held-changes g))

    small : length c.changes ≤ n
    small = (facts g).sound.small

    column-cut : (f : Change → ℕ) {l l' : List ℕ} → column n 0 f c.changes ≡ l → l' ≡ closed 1 0 (take found places) l → l' ≡ column n 0 f (remaining t c.changes)
    column-cut f e q = q ∙ ap₂ (closed 1 0) places-left (sym e) ∙ column-closed t c.changes T.timestamps stamps n 0 f small

    blocks-cut : {A : Type 0} (width : ℕ) (z : A) (f : Change → List A) → Fits width f c.changes → {l l' : List A} → blocks n width z f c.changes ≡ l → l' ≡ closed width z (take found places) l → l' ≡ blocks n width z f (remaining t c.changes)
    blocks-cut width z f k e q = q ∙ ap₂ (closed width z) places-left (sym e) ∙ blocks-closed t c.changes T.timestamps stamps n width z f k small

    -- the held count
    found_left : found ≡ length (remaining t c.changes)
    found_left =
        r.counted
        ∙ ap (λ (k : ℕ). length (remaining_below t T.timestamps k)) (sym (held-changes g))
        ∙ closed-to t c.changes T.timestamps stamps (length c.changes) (omega arith)
        ∙ ap (λ (l : List Change). length (remaining t l)) (take-length c.changes)

    -- the order list
    order-cut : renumbered_by numbers (rank_in T t) (held_count T) T.order ≡ pad n 0 (renumbered t c.changes c.order)
    unfolding encode
    order-cut =
        let placed = (facts g).sound.placed in
        let held = held-changes g in
        ap₂ (renumbered_by numbers (rank_in T t)) (sym held) (ap (λ (U : Tables). U.order) (sym (facts g).laid))
        ∙ order-renumbered t c.changes T.timestamps stamps numbers (λ i h. r.numbered i (omega (arith, held))) n c.order (rank_in T t) placed.counted (omega (arith, placed.counted, small)) (omega (arith, placed.counted, held, rank-within T.order T.timestamps t (held_count T))) placed.below (rank-splits g t).below (rank-splits g t).above

  -- ---- all together

  module _ {found : ℕ} {places held' timestamps' order' status' withdrawn' lengths' programs' reads' writes' sources' : List ℕ} {seen' : List ℤ} {targets' : List ℕ} {written' : List ℤ} {versions' cutoff' : List ℕ} {kept' : List ℤ} where
    pub tables-cut :
        Dropped t T.held T.timestamps T.order T.writes T.targets T.written T.cutoff T.kept found held' order' cutoff' kept' places
        → ColumnsClosed (take found places) T.timestamps T.status T.withdrawn T.lengths T.reads T.writes T.versions timestamps' status' withdrawn' lengths' reads' writes' versions'
        → BlocksClosed (take found places) T.programs T.sources T.seen T.targets T.written programs' sources' seen' targets' written'
        → with_cutoff T held' timestamps' order' status' withdrawn' lengths' programs' reads' writes' sources' seen' targets' written' versions' cutoff' kept' ≡ encode n (cut_at t (decode T))
    unfolding encode decode
    tables-cut d columns blocks =
        let r = d.remain in
        let laid = (facts g).laid in
        let each = (facts g).sound.each in
        let changes = (decode T).changes in
        let reads-few = reads_fit changes each in
        let writes-few = writes-fit changes each in
        let held = d.held-is ∙ ap (λ (U : Tables). set U.held 0 found) (sym laid) ∙ ap (◌∷ []) (found_left r) in
        let order = d.order_is ∙ order-cut r in
        let cutoff = d.cutoff-is ∙ ap (λ (U : Tables). set U.cutoff 0 t) (sym laid) in
        let kept = d.kept-is ∙ kept-as-of g t in
        let timestamps = column-cut r timestamp (ap (λ (U : Tables). U.timestamps) laid) columns.timestamps-is in
        let status = column-cut r (λ x. status_number (status x)) (ap (λ (U : Tables). U.status) laid) columns.status-is in
        let withdrawn = column-cut r (λ x. flag_number (withdrawn x)) (ap (λ (U : Tables). U.withdrawn) laid) columns.withdrawn-is in
        let lengths = column-cut r (λ x. length (program x).bytes / 8) (ap (λ (U : Tables). U.lengths) laid) columns.lengths-is in
        let reads = column-cut r (λ x. length (lists x).reads) (ap (λ (U : Tables). U.reads) laid) columns.reads-is in
        let writes = column-cut r (λ x. length (lists x).writes) (ap (λ (U : Tables). U.writes) laid) columns.writes-is in
        let versions = column-cut r (λ x. (program x).version) (ap (λ (U : Tables). U.versions) laid) columns.versions-is in
        let programs = blocks-cut r 256 0 (λ x. (program x).bytes) (programs-fit changes each) (ap (λ (U : Tables). U.programs) laid) blocks.programs-is in
        let sources = blocks-cut r 32 0 (λ x. settings_of (lists x).reads) (settings-fit (λ x. (lists x).reads) changes reads-few) (ap (λ (U : Tables). U.sources) laid) blocks.sources-is in
        let seen = blocks-cut r 32 (pos 0) (λ x. values_of (lists x).reads) (values-fit (λ x. (lists x).reads) changes reads-few) (ap (λ (U : Tables). U.seen) laid) blocks.seen-is in
        let targets = blocks-cut r 32 0 (λ x. settings_of (lists x).writes) (settings-fit (λ x. (lists x).writes) changes writes-few) (ap (λ (U : Tables). U.targets) laid) blocks.targets-is in
        let written = blocks-cut r 32 (pos 0) (λ x. values_of (lists x).writes) (values-fit (λ x. (lists x).writes) changes writes-few) (ap (λ (U : Tables). U.written) laid) blocks.written_is in
        λ j. tables (held j) (timestamps j) (order j) (status j) (withdrawn j) (lengths j) (programs j) (reads j) (writes j) (sources j) (seen j) (targets j) (written j) T.view (versions j) (cutoff j) (kept j)
