-- The layout of a package, the changes and withdrawals that it holds (document 01, "Calls", refusal 3; document 02, R-6), and the package of given ones (document 02, R-3).
use Rattle.std.specs.Prelude.{Bool, cond, ◌||◌, List, [], ◌∷◌, ◌++◌, ℕ, zero, suc, ◌+◌, ◌*◌, ◌/◌, ◌%◌, eqb, leb, length, get_or, take, drop}
use Rattle.machine.specs.Instruction.{Code, code}
use Rattle.general.specs.Lists.{all_below, tabulate}
use Rattle.model.specs.Form.{every}

-- a taking in or a withdrawal, as a call of its own or as an entry of a package
pub data Item : Type 0 where
  taking : ℕ → Code → Item
  withdrawing : ℕ → Item

-- the number in so many bytes at i, low byte first
unfoldable pub number_at : List ℕ → ℕ → ℕ → ℕ
number_at bytes i zero = 0
number_at bytes i (suc k) = get_or bytes i 0 + 256 * number_at bytes (suc i) k

-- the limits of a package: its entries and its bytes
abbrev pub entry_limit : ℕ
entry_limit = 512

abbrev pub byte_limit : ℕ
byte_limit = 65535

-- k, the number of entries, from 0 to 512
abbrev pub entry_count : List ℕ → ℕ
entry_count bytes = number_at bytes 0 2

-- entry j, of 12 bytes: timestamp (8), kind, instruction count, version (document 02, R-6: "The first zero byte of a package entry becomes the version"), a zero byte
abbrev pub entry_at : ℕ → ℕ
entry_at j = 2 + 12 * j

abbrev pub stamp_of : List ℕ → ℕ → ℕ
stamp_of bytes j = number_at bytes (entry_at j) 8

abbrev pub kind_of : List ℕ → ℕ → ℕ
kind_of bytes j = get_or bytes (entry_at j + 8) 0

abbrev pub count_of : List ℕ → ℕ → ℕ
count_of bytes j = get_or bytes (entry_at j + 9) 0

abbrev pub version_of : List ℕ → ℕ → ℕ
version_of bytes j = get_or bytes (entry_at j + 10) 0

-- kind 0 change or 1 withdrawal; count 0 to 32, and 0 for a withdrawal; version 0 or 1, and 0 for a withdrawal; a zero byte
abbrev pub entry_fits : List ℕ → ℕ → Bool
entry_fits bytes j =
    every
    (leb (kind_of bytes j) 1
    ∷ leb (count_of bytes j) 32
    ∷ (eqb (kind_of bytes j) 0 || eqb (count_of bytes j) 0)
    ∷ leb (version_of bytes j) 1
    ∷ (eqb (kind_of bytes j) 0 || eqb (version_of bytes j) 0)
    ∷ eqb (get_or bytes (entry_at j + 11) 0) 0
    ∷ [])

-- the instructions of the bodies before that of entry j
unfoldable pub count_before : List ℕ → ℕ → ℕ
count_before bytes zero = 0
count_before bytes (suc j) = count_before bytes j + count_of bytes j

-- bodies follow the entries in their order, without gaps
abbrev pub body_at : List ℕ → ℕ → ℕ
body_at bytes j = entry_at (entry_count bytes) + 8 * count_before bytes j

-- at most 65,535 bytes, at most 512 entries, each right, and the length fits exactly: not refusal 3
unfoldable pub layout_fits : List ℕ → Bool
layout_fits bytes =
    every
    (leb 2 (length bytes)
    ∷ leb (length bytes) byte_limit
    ∷ leb (entry_count bytes) entry_limit
    ∷ leb (entry_at (entry_count bytes)) (length bytes)
    ∷ all_below (entry_count bytes) (entry_fits bytes)
    ∷ eqb (length bytes) (body_at bytes (entry_count bytes))
    ∷ [])

abbrev pub item_at : List ℕ → ℕ → Item
item_at bytes j =
    cond (eqb (kind_of bytes j) 0)
    (taking (stamp_of bytes j) (code (version_of bytes j) (take (8 * count_of bytes j) (drop (body_at bytes j) bytes))))
    (withdrawing (stamp_of bytes j))

unfoldable pub items_of : List ℕ → List Item
items_of bytes = tabulate (entry_count bytes) (item_at bytes)

-- ---- the package of some items, laid out as above

-- a number in so many bytes, low byte first
abbrev pub number_bytes : ℕ → ℕ → List ℕ
number_bytes zero number = []
number_bytes (suc k) number = number % 256 ∷ number_bytes k (number / 256)

-- an entry: timestamp (8), kind, instruction count, version, a zero byte
abbrev pub entry_bytes : ℕ → ℕ → ℕ → ℕ → List ℕ
entry_bytes t kind count version = number_bytes 8 t ++ (kind ∷ count ∷ version ∷ 0 ∷ [])

-- kind 0 change or 1 withdrawal, which "has version 0" (document 02, R-6)
abbrev pub item_entry : Item → List ℕ
item_entry (taking t p) = entry_bytes t 0 (length p.bytes / 8) p.version
item_entry (withdrawing t) = entry_bytes t 1 0 0

-- a change's body is its program's bytes
abbrev pub item_body : Item → List ℕ
item_body (taking t p) = p.bytes
item_body (withdrawing t) = []

-- the pieces of the elements of a list, without gaps
abbrev pub joined : {A : Type 0} → (A → List ℕ) → List A → List ℕ
joined piece [] = []
joined piece (x ∷ l) = piece x ++ joined piece l

-- the number of entries, the entries, the bodies
unfoldable pub package_of : List Item → List ℕ
package_of items = number_bytes 2 (length items) ++ joined item_entry items ++ joined item_body items
