-- What the arrays that a turn is lent stand for: the known values, and how far each setting matters.
use Rattle.std.specs.Prelude.{Bool, not, List, map, ℕ, eqb, ℤ}
use Rattle.values.specs.declared.KnownValues.{KnownValues}
use Rattle.uses.specs.declared.SettingUses.{SettingUses}

-- a number that is not 0 says that a value is known
abbrev pub says_known : ℕ → Bool
says_known n = not (eqb n 0)

-- the known values that three arrays give: a number for each setting, and the values before and after a change
abbrev pub values_in : List ℕ → List ℤ → List ℤ → KnownValues
values_in known before after = record { known = map says_known known; before = before; after = after }

-- how far each setting matters, by three arrays
abbrev pub uses_in : List ℕ → List ℕ → List ℕ → SettingUses
uses_in readers writers settled = record { readers = readers; writers = writers; settled = settled }
