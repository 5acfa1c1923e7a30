-- The package of the first changes of the order list, as a function of the lent lists.
use Rattle.std.specs.Prelude.{cond, List, [], ◌∷◌, ◌++◌, ℕ, ◌+◌, eqb, length, drop}
use Rattle.text.specs.Pieces.{pieces_below}
use Rattle.model.specs.Answers.{Packed}
use Rattle.model.specs.Refusals.{first_of, no_room}
use Rattle.model.specs.Package.{number_bytes}
use Rattle.model.specs.Calls.{PackedReply, packed_reply}
use Rattle.package_parts.specs.Parts.{total_of, change_entry, withdrawal_entry, body_in}

-- how many entries the package has: one for each change, one more for each that is withdrawn
abbrev pub entries_in : List ℕ → List ℕ → ℕ → ℕ
entries_in order withdrawn count = count + total_of order withdrawn count

-- the package
unfoldable pub package_in : List ℕ → List ℕ → List ℕ → List ℕ → List ℕ → List ℕ → ℕ → List ℕ
package_in order timestamps withdrawn lengths programs versions count =
    number_bytes 2 (entries_in order withdrawn count)
    ++ pieces_below count (change_entry order timestamps lengths versions)
    ++ pieces_below count (withdrawal_entry order timestamps withdrawn)
    ++ pieces_below count (body_in order lengths programs)

-- put into a slice of bytes, or refused
unfoldable pub packed_in : List ℕ → List ℕ → List ℕ → List ℕ → List ℕ → List ℕ → ℕ → List ℕ → PackedReply
packed_in order timestamps withdrawn lengths programs versions count bytes =
    let written = package_in order timestamps withdrawn lengths programs versions count in
    let r = first_of (no_room (entries_in order withdrawn count) (length written) (length bytes) ∷ []) in
    cond (eqb r 0) (packed_reply (Packed.Length (length written)) (written ++ drop (length written) bytes))
    (packed_reply (Packed.Refused r) bytes)
