-- The lines by their cases.
use mathlib.Core.Path.{◌≡◌}
use mathlib.Core.List.{[], ◌++◌}
use Prim.Native.Nat.{ℕ}
use borrow.Author.Tests.{ne_eqb}
use lib.IntN.{ℤ}
use mir.Syntax.{w32}
use mir.Val.{SFits, to_z, of_z}
use mir.ValLaws.{to_z-of_z}
use Rattle.text.specs.Pieces.{ascii}
use Rattle.text.specs.Decimal.{decimal, signed_decimal}
use Rattle.model.proofs.Values.{same_bits, other-bits}
use Rattle.lines.specs.Lines.{outcome, setting_line}

-- an entry that is refused
pub outcome-refused : (kind : ℕ) {answer : ℕ} → (answer ≡ 255 → ⊥) → (answer ≡ 0 → ⊥) → ascii "refused " ++ decimal answer ≡ outcome kind answer
outcome-refused kind {answer} h n = rw (ne_eqb answer 255 h, ne_eqb answer 0 n)

-- the line of a setting whose value is read from its bits
module _ (s : ℕ) (start : ℤ) {v : ℤ} (f : SFits w32 v) where
  pub setting-none : SFits w32 start → of_z w32 v ≡ of_z w32 start → [] ≡ setting_line s start v
  setting-none g e = rw (same_bits v start f g e)

  pub setting-some : (of_z w32 v ≡ of_z w32 start → ⊥) → ascii "setting " ++ decimal s ++ ascii " " ++ signed_decimal (to_z w32 (of_z w32 v)) ++ ascii "\n" ≡ setting_line s start v
  setting-some n = rw (other-bits v start n, to_z-of_z w32 v f)
