-- The lines that the cabinet program prints (document 01, "Cases to know").
use Rattle.std.specs.Prelude.{cond, List, [], ◌++◌, ℕ, eqb, ℤ}
use Rattle.text.specs.Pieces.{ascii}
use Rattle.text.specs.Decimal.{decimal, signed_decimal}
use Rattle.model.specs.Answers.{Turned}
use Rattle.model.specs.History.{eq_z}

-- a package that is refused
abbrev pub package_line : ℕ → List ℕ
package_line refusal = ascii "package refused " ++ decimal refusal ++ ascii "\n"

-- what became of an entry, by its kind and the number of its answer
abbrev pub outcome : ℕ → ℕ → List ℕ
outcome kind answer =
    cond (eqb answer 255) (ascii "held")
    (cond (eqb answer 0) (cond (eqb kind 0) (ascii "taken") (ascii "withdrawn")) (ascii "refused " ++ decimal answer))

-- an entry, by its index in the contents
abbrev pub entry_line : ℕ → ℕ → ℕ → List ℕ
entry_line index kind answer = ascii "entry " ++ decimal index ++ ascii " " ++ outcome kind answer ++ ascii "\n"

-- a turn of a timestamp
abbrev pub turn_of : ℕ → List ℕ → List ℕ
turn_of timestamp done = ascii "turn " ++ decimal timestamp ++ done ++ ascii "\n"

-- a turn; an idle one has no line. Document 02, R-2: "`turn 10 faulted 2` where the third instruction broke off"
abbrev pub turn_line : Turned → List ℕ
turn_line Turned.Idle = []
turn_line (Turned.Ran t) = turn_of t (ascii " ran")
turn_line (Turned.Stood t) = turn_of t (ascii " stood")
turn_line (Turned.Cleared t) = turn_of t (ascii " cleared")
turn_line (Turned.Faulted t place) = turn_of t (ascii " faulted " ++ decimal place)
turn_line (Turned.Refused r) = []

-- a setting and its value; one at the value that it starts at has no line (document 02, R-1: "The program lists settings that differ from their start.")
abbrev pub setting_line : ℕ → ℤ → ℤ → List ℕ
setting_line s start v = cond (eq_z v start) [] (ascii "setting " ++ decimal s ++ ascii " " ++ signed_decimal v ++ ascii "\n")
