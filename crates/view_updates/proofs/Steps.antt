-- The view followed by one setting more.
use mathlib.Core.Path.{◌≡◌, sym, ap, ◌∙◌}
use mathlib.Core.Bool.{cond}
use mathlib.Core.List.{List}
use Prim.Native.Nat.{ℕ, ◌+◌, ◌<◌, ◌≤◌}
use native.Mathlib.Numerals.{add-one}
use borrow.Author.Tests.{le-leb, lt-leb}
use lib.Dec.{leb}
use lib.IntN.{ℤ}
use lib.ListN.{length, get_or, set, drop, drop_of_length-le}
use lib.Seq.{drop-cons}
use Rattle.machine.specs.Settings.{value_in}
use Rattle.view_updates.specs.View.{followed}

module _ (writers : List ℕ) (from : ℕ) (values : List ℤ) (changed : List ℕ) (i : ℕ) (view : List ℤ) where
  abbrev s : ℕ
  s = get_or changed i 0

  module _ (h : i < length changed) {view' : List ℤ} where
    next : view' ≡ cond (leb (get_or writers s 0) from) (set view s (value_in values s)) view → followed writers from values (drop (i + 1) changed) view' ≡ followed writers from values (drop i changed) view
    unfolding followed
    next e = rw (e, add-one) (ap (λ (l : List ℕ). followed writers from values l view) (sym (drop-cons changed i 0 h)))

    -- no later change writes the setting
    pub follow-next : {v : ℤ} → get_or writers s 0 ≤ from → view' ≡ set view s v → v ≡ value_in values s → followed writers from values (drop (i + 1) changed) view' ≡ followed writers from values (drop i changed) view
    follow-next q e w = next (e ∙ rw (le-leb (get_or writers s 0) from q, w))

    -- one does
    pub follow-kept : from < get_or writers s 0 → view' ≡ view → followed writers from values (drop (i + 1) changed) view' ≡ followed writers from values (drop i changed) view
    follow-kept q e = next (e ∙ rw (lt-leb (get_or writers s 0) from q))

  pub follow-end : length changed ≤ i → view ≡ followed writers from values (drop i changed) view
  unfolding followed
  follow-end h = rw (drop_of_length-le changed {i = i} h)
