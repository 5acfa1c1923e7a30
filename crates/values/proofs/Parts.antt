-- Lists of settings and values as the parts of two columns that the code lends, and which of them are of settings.
use mathlib.Core.Path.{◌≡◌, sym, ap, subst, ◌∙◌}
use mathlib.Core.List.{List}
use Prim.Native.Nat.{ℕ, ◌+◌, ◌*◌, ◌≤◌, ◌<◌}
use native.Mathlib.Omega.{arith}
use lib.IntN.{ℤ}
use lib.ListN.{length, get_or, take, drop, length-drop}
use lib.Seq.{length-take-le}
use Rattle.machine.specs.Settings.{entries}
use Rattle.model.specs.Tables.{slots, list_in}
use Rattle.model.proofs.Entries.{entries-take}
use Rattle.general.proofs.Parts.{part, used-part}
use Rattle.writers.specs.Writers.{WriteLists, OfSettings}

-- a part of a table, as it is lent, has its count of slots
pub part_length : {A : Type 0} (width place count : ℕ) (l : List A) → width * place + count ≤ length l → length (part width place count l) ≡ count
part_length width place count l h = ap length (used-part width place count l) ∙ length-take-le count (drop (width * place) l) (simp length-drop (omega (arith, h)))

-- its settings are those of the list
pub part-settings : (place count : ℕ) (settings : List ℕ) → OfSettings (slots 32 place count settings) → OfSettings (part 32 place count settings)
part-settings place count settings = subst OfSettings (sym (used-part 32 place count settings))

module _ (counts settings : List ℕ) (values : List ℤ) (place : ℕ) (h : 32 * place + get_or counts place 0 ≤ length settings) (q : 32 * place + get_or counts place 0 ≤ length values) where
  pub same-part : length (part 32 place (get_or counts place 0) settings) ≡ length (part 32 place (get_or counts place 0) values)
  same-part = part_length 32 place (get_or counts place 0) settings h ∙ sym (part_length 32 place (get_or counts place 0) values q)

  pub part-entries : entries (length (part 32 place (get_or counts place 0) settings)) (part 32 place (get_or counts place 0) settings) (part 32 place (get_or counts place 0) values) ≡ list_in counts settings values place
  part-entries =
      let size = part_length 32 place (get_or counts place 0) settings h in
      let first = used-part 32 place (get_or counts place 0) settings in
      let second = used-part 32 place (get_or counts place 0) values in
      (λ j. entries (size j) (first j) (second j)) ∙ entries-take (get_or counts place 0) (drop (32 * place) settings) (drop (32 * place) values)

-- ---- the write list of a place

module _ {writes targets : List ℕ} {written : List ℤ} (w : WriteLists writes targets written) (place : ℕ) (h : place < length writes) where
  target_room : 32 * place + get_or writes place 0 ≤ length targets
  target_room = omega (arith, w.short place, w.target-slots)

  value_room : 32 * place + get_or writes place 0 ≤ length written
  value_room = omega (arith, w.short place, w.value-slots)

  pub write-length : length (part 32 place (get_or writes place 0) targets) ≡ get_or writes place 0
  write-length = part_length 32 place (get_or writes place 0) targets target_room

  pub same-writes : length (part 32 place (get_or writes place 0) targets) ≡ length (part 32 place (get_or writes place 0) written)
  same-writes = same-part writes targets written place target_room value_room

  pub write-entries : entries (length (part 32 place (get_or writes place 0) targets)) (part 32 place (get_or writes place 0) targets) (part 32 place (get_or writes place 0) written) ≡ list_in writes targets written place
  write-entries = part-entries writes targets written place target_room value_room

-- ---- the first count slots of two arrays, as they are lent

module _ (count : ℕ) (settings : List ℕ) (values : List ℤ) (h : count ≤ length settings) (q : count ≤ length values) where
  pub first-same : length (take count settings) ≡ length (take count values)
  first-same = length-take-le count settings h ∙ sym (length-take-le count values q)

  pub first-entries : entries (length (take count settings)) (take count settings) (take count values) ≡ entries count settings values
  first-entries = (λ j. entries (length-take-le count settings h j) (take count settings) (take count values)) ∙ entries-take count settings values
