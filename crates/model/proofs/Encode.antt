-- The tables of a sound cabinet have the right lengths and pass every test of form.
use mathlib.Core.Path.{◌≡◌, refl, sym, ap, subst⁻¹, ◌∙◌}
use mathlib.Core.Bool.{Bool, true, false}
use mathlib.Core.List.{List, []}
use Prim.Native.Nat.{ℕ, suc, ◌≤◌, ◌<◌}
use native.Mathlib.Omega.{arith}
use lib.IntN.{pos}
use lib.ListN.{length, get_or, length-map}
use lib.Seq.{drop_at}
use Rattle.machine.specs.Settings.{Entry, Bounded}
use Rattle.machine.specs.Instruction.{Code}
use Rattle.machine.specs.Form.{all_well_formed}
use Rattle.model.specs.History.{Status, New, Valid, Invalid, Lists, Change, timestamp, program, status, withdrawn, lists}
use Rattle.model.specs.Cabinet.{Cabinet, blank, history_of}
use Rattle.model.specs.Tables.{status_number, status_of, flag_number, column, blocks, settings_of, values_of, encode}
use Rattle.model.specs.Form.{timestamp_of}
use Rattle.model.specs.Sound.{ChangeSound, Sound}
use Rattle.model.proofs.Blocks.{pad-length, column-length, column-get, column-rest, Fits, blocks-length, blocks-rest, blocks-unused}
use Rattle.model.proofs.Entries.{distinct-fits}
use Rattle.model.proofs.Tests.{zeros-pass, zeros_z-pass, Lengths, Head, Programmed, TestedList, Unused, FormTests}
use Rattle.model.proofs.Order.{changes_at-length, changes_at-get, rising-next, below_at}
use Rattle.model.proofs.Tables.{length-short, sound-at, under_at, programs-fit, reads_fit, writes-fit, settings-fit, values-fit, settings-back, timestamp-at, order-at, status-at, withdrawn-at, length_at, reads_at, writes-at, version-at, status-back, length_back, program-back}

-- ---- lengths, and the slots of places that are not held

columns : (n : ℕ) (c : Cabinet) → Sound n c → Lengths n (encode n c) × Unused (encode n c) (length c.changes)
unfolding encode
columns n c s =
    let small = s.small in
    let programs = programs-fit c.changes s.each in
    let reads = reads_fit c.changes s.each in
    let writes = writes-fit c.changes s.each in
    let sources = settings-fit (λ d. (lists d).reads) c.changes reads in
    let seen = values-fit (λ d. (lists d).reads) c.changes reads in
    let targets = settings-fit (λ d. (lists d).writes) c.changes writes in
    let written = values-fit (λ d. (lists d).writes) c.changes writes in (
      record {
        some-capacity = s.some-capacity;
        capacity = s.capacity;
        held = refl;
        timestamps = rw column-length;
        order = pad-length n 0 c.order (omega arith);
        status = rw column-length;
        withdrawn = rw column-length;
        lengths = rw column-length;
        programs = rw blocks-length;
        reads = rw column-length;
        writes = rw column-length;
        sources = rw blocks-length;
        seen = rw blocks-length;
        targets = rw blocks-length;
        written = rw blocks-length;
        view = s.viewed;
        versions = rw column-length;
        cutoff = refl;
        kept = s.kept-sized;
      },
      record {
        timestamps = rw (column-rest, zeros-pass);
        order = rw (drop_at c.order _ (length c.changes) s.placed.counted, zeros-pass);
        status = rw (column-rest, zeros-pass);
        withdrawn = rw (column-rest, zeros-pass);
        lengths = rw (column-rest, zeros-pass);
        programs = rw (blocks-rest, zeros-pass);
        reads = rw (column-rest, zeros-pass);
        writes = rw (column-rest, zeros-pass);
        sources = rw (blocks-rest, zeros-pass);
        seen = rw (blocks-rest, zeros_z-pass);
        targets = rw (blocks-rest, zeros-pass);
        written = rw (blocks-rest, zeros_z-pass);
        versions = rw (column-rest, zeros-pass);
      },
    )

pub lengths-encode : (n : ℕ) (c : Cabinet) → Sound n c → Lengths n (encode n c)
lengths-encode n c s = (columns n c s).0

-- ---- a place

status-small : (s : Status) → status_number s ≤ 2
status-small New = omega arith
status-small Valid = omega arith
status-small Invalid = omega arith

flag_small : (w : Bool) → flag_number w ≤ 1
flag_small false = omega arith
flag_small true = omega arith

module _ (n : ℕ) (c : Cabinet) (s : Sound n c) (i : ℕ) (h : i < length c.changes) where
  sound : ChangeSound (get_or c.changes i blank)
  sound = sound-at c.changes i s.each h

  encode-head : Head (encode n c) i
  encode-head =
      record {
        above = rw (timestamp-at n c i) sound.above;
        below = rw (timestamp-at n c i) sound.below;
        status = rw (status-at n c i) (status-small (status (get_or c.changes i blank)));
        withdrawn = rw (withdrawn-at n c i) (flag_small (withdrawn (get_or c.changes i blank)));
        new =
            λ e.
            let none = sound.new (sym (status-back _) ∙ ap status_of (sym (status-at n c i) ∙ e)) in
            (reads_at n c i ∙ ap (λ (l : Lists). length l.reads) none, writes-at n c i ∙ ap (λ (l : Lists). length l.writes) none);
        version = rw (version-at n c i) sound.versioned;
      }

  encode-program : Programmed (encode n c) i
  unfolding encode
  encode-program =
      record {
        short = omega (arith, length_at n c i, length-short (program (get_or c.changes i blank)).bytes sound.sized);
        formed = subst⁻¹ (λ (p : Code). all_well_formed p.bytes ≡ true) (program-back n c s i h) sound.formed;
        rest = rw (length_back n c s i h, blocks-unused n 256 0 (λ d. (program d).bytes) c.changes i (programs-fit c.changes s.each) h, zeros-pass);
      }

-- a list of entries, in its count and its two columns
list-form : (n : ℕ) (f : Change → List Entry) (changes : List Change) (i : ℕ) → Fits 32 f changes → i < length changes → f blank ≡ [] → Bounded (f (get_or changes i blank)) → TestedList (column n 0 (λ d. length (f d)) changes) (blocks n 32 0 (λ d. settings_of (f d)) changes) (blocks n 32 (pos 0) (λ d. values_of (f d)) changes) i
list-form n f changes i k h b l =
    let list = f (get_or changes i blank) in
    let count : get_or (column n 0 (λ d. length (f d)) changes) i 0 ≡ length list = column-get n 0 (λ d. length (f d)) changes i (ap length b) in
    record {
      short = rw count l.short;
      distinct = rw (count, settings-back n f changes i k h) (distinct-fits list l.distinct);
      settings-rest =
          rw (count ∙ sym (length-map list (λ (e : Entry). e.setting)), blocks-unused n 32 0 (λ d. settings_of (f d)) changes i (settings-fit f changes k) h, zeros-pass);
      values-rest =
          rw (count ∙ sym (length-map list (λ (e : Entry). e.value)), blocks-unused n 32 (pos 0) (λ d. values_of (f d)) changes i (values-fit f changes k) h, zeros_z-pass);
    }

-- ---- order

module _ (n : ℕ) (c : Cabinet) (s : Sound n c) where
  encode-place : (k : ℕ) → k < length c.changes → get_or (encode n c).order k 0 < length c.changes
  encode-place k h = rw (order-at n c k) (below_at (length c.changes) c.order k s.placed.below (omega arith))

  ordered : (k : ℕ) → k < length c.changes → timestamp_of (encode n c).order (encode n c).timestamps k ≡ timestamp (get_or (history_of c) k blank)
  ordered k h =
      timestamp-at n c (get_or (encode n c).order k 0)
      ∙ ap (λ (i : ℕ). timestamp (get_or c.changes i blank)) (order-at n c k)
      ∙ ap timestamp (sym (changes_at-get c.changes c.order k (omega arith)))

  encode-rising : (k : ℕ) → suc k < length c.changes → timestamp_of (encode n c).order (encode n c).timestamps k < timestamp_of (encode n c).order (encode n c).timestamps (suc k)
  encode-rising k h =
      rw (ordered k (omega arith), ordered (suc k) h)
      (rising-next (history_of c) 0 k s.rising (omega (arith, changes_at-length c.changes c.order)))

pub form-encode : (n : ℕ) (c : Cabinet) → Sound n c → FormTests n (encode n c)
unfolding encode
form-encode n c s =
    record {
      small = s.small;
      heads = encode-head n c s;
      places = encode-place n c s;
      rising = encode-rising n c s;
      programs = encode-program n c s;
      reads = λ i h. list-form n (λ d. (lists d).reads) c.changes i (reads_fit c.changes s.each) h refl (sound n c s i h).reads;
      writes = λ i h. list-form n (λ d. (lists d).writes) c.changes i (writes-fit c.changes s.each) h refl (sound n c s i h).writes;
      unused = (columns n c s).1;
      cut = s.cut;
      uncut = λ i h. rw (timestamp-at n c i) (under_at c.cutoff c.changes i s.uncut h);
    }
