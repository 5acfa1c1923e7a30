-- What the view is after it followed, setting by setting, as a function of the lent lists.
use Rattle.std.specs.Prelude.{cond, List, [], ◌∷◌, ℕ, leb, ℤ, get_or, set}
use Rattle.machine.specs.Settings.{value_in}

-- the new value of each of some settings whose writers end at a position or below
unfoldable pub followed : List ℕ → ℕ → List ℤ → List ℕ → List ℤ → List ℤ
followed writers from values [] view = view
followed writers from values (s ∷ changed) view =
    followed writers from values changed (cond (leb (get_or writers s 0) from) (set view s (value_in values s)) view)
