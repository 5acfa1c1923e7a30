-- What the cabinet program prints of the entries of a package and of the settings (document 01, "Cases to know"), and which turn ends the turns.
use Rattle.std.specs.Prelude.{Bool, true, false, List, ℕ, ℤ, get_or}
use Rattle.text.specs.Pieces.{pieces_below}
use Rattle.machine.specs.Settings.{setting_count, value_in}
use Rattle.model.specs.Answers.{Turned}
use Rattle.model.specs.History.{start}
use Rattle.model.specs.Package.{entry_count, kind_of}
use Rattle.lines.specs.Lines.{entry_line, setting_line}

-- entry j of a package, with the number of its answer; all entries
abbrev pub entry_of : List ℕ → List ℕ → ℕ → List ℕ
entry_of bytes answers j = entry_line j (kind_of bytes j) (get_or answers j 0)

unfoldable pub entry_lines : List ℕ → List ℕ → List ℕ
entry_lines bytes answers = pieces_below (entry_count bytes) (entry_of bytes answers)

-- a setting with its value; the settings that differ from their start
abbrev pub setting_of : List ℤ → ℕ → List ℕ
setting_of view s = setting_line s (start s) (value_in view s)

unfoldable pub setting_lines : List ℤ → List ℕ
setting_lines view = pieces_below setting_count (setting_of view)

-- whether a turn is idle
abbrev pub is_idle : Turned → Bool
is_idle Turned.Idle = true
is_idle (Turned.Ran t) = false
is_idle (Turned.Stood t) = false
is_idle (Turned.Cleared t) = false
is_idle (Turned.Faulted t place) = false
is_idle (Turned.Refused r) = false
