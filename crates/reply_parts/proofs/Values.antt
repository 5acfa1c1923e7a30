-- The values of a setting's line.
use mathlib.Core.Path.{◌≡◌, ap₂, ◌∙◌}
use mathlib.Core.List.{List}
use Prim.Native.Nat.{ℕ}
use lib.IntN.{ℤ}
use mir.Syntax.{w32}
use mir.Val.{SFits, to_z, of_z}
use mir.ValLaws.{to_z-of_z}
use Rattle.machine.specs.Settings.{value_in}
use Rattle.lines.specs.Lines.{setting_line}
use Rattle.model.specs.History.{start}
use Rattle.reply_parts.specs.Parts.{setting_of}

-- a start value and a value of a list, read from their bits
pub setting-read : (s : ℕ) (view : List ℤ) {first : ℤ} → SFits w32 first → first ≡ start s → SFits w32 (value_in view s) → setting_line s (to_z w32 (of_z w32 first)) (to_z w32 (of_z w32 (value_in view s))) ≡ setting_of view s
setting-read s view {first} f e g = ap₂ (setting_line s) (to_z-of_z w32 first f ∙ e) (to_z-of_z w32 (value_in view s) g)
