-- Answers as the numbers that the exported functions give, by what an answer gives (`Given` of the calls). That of an `Answer` is `answer_number` of the calls. The number of a refusal is none of another answer.
use Rattle.std.specs.Prelude.{cond, List, ◌++◌, map, ℕ, ◌+◌, ◌*◌, eqb, ℤ, pos, nat_abs, length, get_or, drop, Result, Ok, Err}
use Rattle.model.specs.declared.Turn.{Turn}
use Rattle.model.specs.declared.Standing as code
use Rattle.model.specs.Answers.{Turned, Value, Standing, Packed, as_turn}
use Rattle.model.specs.Tables.{Tables}
use Rattle.model.specs.Calls.{Given, refused, given, turned_given, packed_given, answer_number, Reply, reply, PackageReply, TotalsReply, PlainReply, PackedReply, turn}

-- ---- answers of the code, by what number a refusal has

abbrev pub value_by : {R : Type 0} → (R → ℕ) → Result ℤ R → Value
value_by number (Ok v) = Value.Is v
value_by number (Err refusal) = Value.Refused (number refusal)

abbrev pub standing_by : {R : Type 0} → (R → ℕ) → Result code.Standing R → Standing
standing_by number (Ok standing) = Standing.At standing.status standing.withdrawn
standing_by number (Err refusal) = Standing.Refused (number refusal)

abbrev pub packed_by : {R : Type 0} → (R → ℕ) → Result ℕ R → Packed
packed_by number (Ok size) = Packed.Length size
packed_by number (Err refusal) = Packed.Refused (number refusal)

abbrev pub turned_by : {R : Type 0} → (R → ℕ) → Result Turn R → Turned
turned_by number (Ok turn) = as_turn turn
turned_by number (Err refusal) = Turned.Refused (number refusal)

-- ---- numbers

-- the value, or 4,294,967,296 + the refusal
abbrev pub value_number : Given → ℤ
value_number (refused r) = pos (4294967296 + r)
value_number (given k values) = get_or values 0 (pos 0)

-- status + 256 × flag, or 65,536 + the refusal
abbrev pub standing_number : Given → ℕ
standing_number (refused r) = 65536 + r
standing_number (given k values) = nat_abs (get_or values 0 (pos 0)) + nat_abs (get_or values 1 (pos 0)) * 256

-- the length of a package, or 65,536 + the refusal
abbrev pub packed_number : Given → ℕ
packed_number (refused r) = 65536 + r
packed_number (given k values) = nat_abs (get_or values 0 (pos 0))

-- of a turn: 0 idle, 1 ran, 2 stood, 3 cleared, 4 faulted, or 16 + the refusal
abbrev pub turned_number : Given → ℕ
turned_number (refused r) = 16 + r
turned_number (given k values) = k

-- ---- the reply of an exported function

-- a reply with its answer as a number
abbrev pub answering : {A B : Type 0} → (A → B) → Reply A → Reply B
answering number r = reply (number r.answer) r.tables

-- a number, and what stands in the slice that is lent beside the tables
pub record Numbered (A : Type 0) : Type 0 where
  pub number : ℕ
  pub slice : List A

abbrev pub numbered : {A : Type 0} → ℕ → List A → Numbered A
numbered number slice = record { number = number; slice = slice }

-- a package: the slice has the answer bytes
abbrev pub package_numbers : PackageReply → Reply (Numbered ℕ)
package_numbers r = reply (numbered (answer_number r.answer) r.answers) r.tables

-- a plain run, or the start values: the slice has the settings
abbrev pub plain_numbers : PlainReply → Numbered ℤ
plain_numbers r = numbered (answer_number r.answer) r.settings

-- a drain: the slice has the totals
abbrev pub totals_numbers : TotalsReply → Reply (Numbered ℕ)
totals_numbers r = reply (numbered (answer_number r.answer) r.totals) r.tables

-- package out: the slice has the bytes
abbrev pub packed_numbers : PackedReply → Numbered ℕ
packed_numbers r = numbered (packed_number (packed_given r.answer)) r.bytes

-- ---- turn: the slice has the values of the answer

-- an answer's values, then the contents as they were; a refusal alters nothing
abbrev pub put_into : List ℕ → Given → List ℕ
put_into slice (refused r) = slice
put_into slice (given k values) = map nat_abs values ++ drop (length values) slice

abbrev pub given_numbers : (Given → ℕ) → List ℕ → Given → Numbered ℕ
given_numbers number slice g = numbered (number g) (put_into slice g)

-- two entries: the timestamp that the answer names and, where it is faulted, the place; idle names none. A slice of another length is refusal 1, tested first
unfoldable pub turn_numbers : ℕ → Tables → List ℕ → Reply (Numbered ℕ)
turn_numbers n T slice =
    cond (eqb (length slice) 2)
    (answering (λ a. given_numbers turned_number slice (turned_given a)) (turn n T))
    (reply (given_numbers turned_number slice (refused 1)) T)
