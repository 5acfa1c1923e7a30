-- The lists of places: as they are lent, those of the change at a position, and numbers stored for their settings.
use mathlib.Core.Path.{◌≡◌, sym, ap}
use mathlib.Core.List.{List}
use Prim.Native.Nat.{ℕ, ◌+◌, ◌-◌, ◌*◌, ◌<◌, ◌≤◌}
use native.Mathlib.Numerals.{add-one}
use lib.ListN.{length, get_or, set, take, drop, drop_of_length-le}
use lib.Seq.{drop-cons}
use Rattle.writers.proofs.Named.{lent-first}
use Rattle.uses.specs.Columns.{list_at}
use Rattle.uses.specs.Uses.{numbered}

-- ---- a list of settings

-- the list of a place, as it is lent: from its first slot up to its count
pub lent-list : (place : ℕ) (counts settings : List ℕ) → take (32 * place + get_or counts place 0 - 32 * place) (drop (32 * place) settings) ≡ list_at counts settings place
lent-list place counts settings = lent-first place (get_or counts place 0) settings

-- ---- numbers stored for the settings of a list

module _ (settings : List ℕ) (v : ℕ) (j : ℕ) (numbers : List ℕ) where
  pub numbered_next : j < length settings → numbered (drop (j + 1) settings) v (set numbers (get_or settings j 0) v) ≡ numbered (drop j settings) v numbers
  unfolding numbered
  numbered_next h = rw add-one (ap (λ (l : List ℕ). numbered l v numbers) (sym (drop-cons settings j 0 h)))

  pub numbered-end : length settings ≤ j → numbers ≡ numbered (drop j settings) v numbers
  unfolding numbered
  numbered-end h = rw (drop_of_length-le settings {i = j} h)
