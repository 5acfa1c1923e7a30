-- A change entered in tables that hold a sound cabinet: they are the layout of the cabinet with that change.
use mathlib.Core.Path.{◌≡◌, refl, sym, ap, ◌∙◌}
use mathlib.Core.Bool.{false}
use mathlib.Core.List.{List, [], ◌∷◌, ◌++◌}
use mathlib.Core.Option.{Option, none}
use Prim.Native.Nat.{ℕ, zero, suc, ◌+◌, ◌*◌, ◌/◌, ◌≤◌, ◌<◌}
use native.Mathlib.Omega.{arith}
use borrow.Author.Tests.{lt-ltb, le-ltb, eqb-false}
use lib.Dec.{eqb}
use lib.IntN.{pos}
use lib.ListN.{length, get_or, set, take, drop, length-append}
use Rattle.machine.specs.Instruction.{Code}
use Rattle.general.proofs.Cases.{by-test}
use Rattle.model.specs.History.{New, empty, Change, change, timestamp, program, status, withdrawn, lists, History}
use Rattle.model.specs.Cabinet.{Cabinet, blank, changes_at, history_of, find, enter_place, add}
use Rattle.model.specs.Tables.{Tables, tables, with_taking, status_number, flag_number, pad, settings_of, values_of, encode}
use Rattle.model.specs.Sound.{Sound}
use Rattle.model.proofs.Figure.{AllBelow, NoneBelow}
use Rattle.model.proofs.Blocks.{column-append}
use Rattle.model.proofs.Tables.{programs-fit, reads_fit, writes-fit, settings-fit, values-fit}
use Rattle.search.proofs.Split.{Split}
use Rattle.taking.specs.Taking.{copied, entered}
use Rattle.taking.proofs.Slots.{column-more, blocks_more, blocks-none-more, order-more}

-- ---- the order list

not-here : (t : ℕ) (c : Change) (h : History) → find t (c ∷ h) ≡ none → (timestamp c ≡ t → ⊥) × (find t h ≡ none)
not-here t c h e =
    by-test (λ (x : Option Change). x ≡ none → (timestamp c ≡ t → ⊥) × (find t h ≡ none)) (eqb (timestamp c) t)
    (λ b q. absurd (let z : ◌≡◌ {A = ℕ} 0 1 = cc in omega arith)) (λ b q. (eqb-false (timestamp c) t b, q)) e

-- a timestamp that is not held: its place is entered where the changes below it end
module _ (changes : List Change) (t place : ℕ) where
  enter-at : (order : List ℕ) (position : ℕ) → AllBelow t (take position (changes_at changes order)) → NoneBelow t (drop position (changes_at changes order)) → find t (changes_at changes order) ≡ none → enter_place changes t place order ≡ take position order ++ (place ∷ drop position order)
  enter-at [] zero b a e = refl
  enter-at [] (suc position) b a e = refl
  enter-at (i ∷ order) zero b a e =
      let stamp = timestamp (get_or changes i blank) in
      let other = (not-here t (get_or changes i blank) (changes_at changes order) e).0 in
      rw (lt-ltb t stamp (omega (arith, a.0)))
  enter-at (i ∷ order) (suc position) b a e =
      rw (le-ltb t (timestamp (get_or changes i blank)) (omega (arith, b.0)))
      (ap (i ∷◌) (enter-at order position b.1 a (not-here t (get_or changes i blank) (changes_at changes order) e).1))

-- ---- the tables

-- tables with a change more, at the place of number count and a position of the order list
abbrev pub entered_in : Tables → ℕ → ℕ → ℕ → Code → Tables
entered_in T count position t p =
    with_taking T (set T.held 0 (count + 1)) (set T.timestamps count t) (entered count position T.order) (set T.lengths count (length p.bytes / 8)) (copied p.bytes (256 * count) T.programs) (set T.versions count p.version)

module _ (n : ℕ) (c : Cabinet) (s : Sound n c) (t : ℕ) (p : Code) (room : length c.changes < n) (short : length p.bytes ≤ 256) (free : find t (history_of c) ≡ none) (position : ℕ) (within : position ≤ length c.changes) (split : Split t (history_of c) position) where
  order-added : entered (length c.changes) position (pad n 0 c.order) ≡ pad n 0 (add t p c).order
  order-added =
      let counted = s.placed.counted in
      ap (λ (m : ℕ). entered m position (pad n 0 c.order)) (sym counted)
      ∙ order-more n position c.order (omega (arith, counted))
      ∙ ap (pad n 0) (sym (enter-at c.changes t (length c.order) c.order position split.below split.above free))
      ∙ ap (λ (m : ℕ). pad n 0 (enter_place c.changes t m c.order)) counted

  pub added : entered_in (encode n c) (length c.changes) position t p ≡ encode n (add t p c)
  unfolding encode
  added =
      let new = change t p New false empty in
      let reads-few = reads_fit c.changes s.each in
      let writes-few = writes-fit c.changes s.each in
      let held = ap (◌∷ []) (sym (length-append c.changes (new ∷ []))) in
      let timestamps = sym (column-append n 0 timestamp c.changes new room) in
      let status = column-more n 0 (λ d. status_number (status d)) c.changes new refl refl room in
      let withdrawn = column-more n 0 (λ d. flag_number (withdrawn d)) c.changes new refl refl room in
      let lengths = sym (column-append n 0 (λ d. length (program d).bytes / 8) c.changes new room) in
      let programs = blocks_more n 256 0 (λ d. (program d).bytes) c.changes new (programs-fit c.changes s.each) room short in
      let reads = column-more n 0 (λ d. length (lists d).reads) c.changes new refl refl room in
      let writes = column-more n 0 (λ d. length (lists d).writes) c.changes new refl refl room in
      let sources = blocks-none-more n 32 0 (λ d. settings_of (lists d).reads) c.changes new (settings-fit (λ d. (lists d).reads) c.changes reads-few) room refl in
      let seen = blocks-none-more n 32 (pos 0) (λ d. values_of (lists d).reads) c.changes new (values-fit (λ d. (lists d).reads) c.changes reads-few) room refl in
      let targets = blocks-none-more n 32 0 (λ d. settings_of (lists d).writes) c.changes new (settings-fit (λ d. (lists d).writes) c.changes writes-few) room refl in
      let written = blocks-none-more n 32 (pos 0) (λ d. values_of (lists d).writes) c.changes new (values-fit (λ d. (lists d).writes) c.changes writes-few) room refl in
      let versions = sym (column-append n 0 (λ d. (program d).version) c.changes new room) in
      λ j. tables (held j) (timestamps j) (order-added j) (status j) (withdrawn j) (lengths j) (programs j) (reads j) (writes j) (sources j) (seen j) (targets j) (written j) c.view (versions j) (encode n c).cutoff c.kept
