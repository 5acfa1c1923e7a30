-- Lengths of the tables, and when tables are in form (document 01, "Tables", refusals 1 and 2; document 02, R-6, R-7).
use Rattle.std.specs.Prelude.{◌≡◌, Bool, true, false, not, ◌&&◌, ◌||◌, List, [], ◌∷◌, ℕ, ◌+◌, ◌-◌, ◌*◌, eqb, ltb, leb, ℤ, length, get_or, take, drop}
use Rattle.words.specs.Words.{is_zero}
use Rattle.machine.specs.Settings.{setting_count}
use Rattle.general.specs.Lists.{all_below}
use Rattle.machine.specs.Form.{all_well_formed}
use Rattle.model.specs.History.{infinity, is_timestamp}
use Rattle.model.specs.Tables.{Tables, held_count, cutoff_in, slots, program_in}

-- does every test pass
abbrev pub every : List Bool → Bool
every [] = true
every (b ∷ tests) = b && every tests

-- ---- lengths

-- capacity N is 1 to 4,096, and each table has exactly the length given
abbrev pub length_tests : ℕ → Tables → List Bool
length_tests n T =
    leb 1 n
    ∷ leb n 4096
    ∷ eqb (length T.held) 1
    ∷ eqb (length T.timestamps) n
    ∷ eqb (length T.order) n
    ∷ eqb (length T.status) n
    ∷ eqb (length T.withdrawn) n
    ∷ eqb (length T.lengths) n
    ∷ eqb (length T.programs) (256 * n)
    ∷ eqb (length T.reads) n
    ∷ eqb (length T.writes) n
    ∷ eqb (length T.sources) (32 * n)
    ∷ eqb (length T.seen) (32 * n)
    ∷ eqb (length T.targets) (32 * n)
    ∷ eqb (length T.written) (32 * n)
    ∷ eqb (length T.view) setting_count
    ∷ eqb (length T.versions) n
    ∷ eqb (length T.cutoff) 1
    ∷ eqb (length T.kept) setting_count
    ∷ []

-- not refusal 1
unfoldable pub lengths_fit : ℕ → Tables → Bool
lengths_fit n T = every (length_tests n T)

-- ---- form

-- unused slots hold 0
abbrev pub all_zero : List ℕ → Bool
all_zero [] = true
all_zero (x ∷ l) = eqb x 0 && all_zero l

abbrev pub all_zero_z : List ℤ → Bool
all_zero_z [] = true
all_zero_z (x ∷ l) = is_zero x && all_zero_z l

-- the slots of a place past the first count
abbrev pub rest_of : {A : Type 0} → ℕ → ℕ → ℕ → List A → List A
rest_of width place count l = take (width - count) (drop (width * place + count) l)

-- the timestamp is valid; status is 0 New, 1 Valid or 2 Invalid; withdrawn is 0 or 1; a New change's lists are empty; the version is 0 or 1
abbrev pub head_fits : List ℕ → List ℕ → List ℕ → List ℕ → List ℕ → List ℕ → ℕ → Bool
head_fits timestamps status withdrawn reads writes versions i =
    every
    (is_timestamp (get_or timestamps i 0)
    ∷ leb (get_or status i 0) 2
    ∷ leb (get_or withdrawn i 0) 1
    ∷ (not (eqb (get_or status i 0) 0) || (eqb (get_or reads i 0) 0 && eqb (get_or writes i 0) 0))
    ∷ leb (get_or versions i 0) 1
    ∷ [])

-- at most 32 instructions, each well formed, and zeros behind them
abbrev pub program_fits : List ℕ → List ℕ → ℕ → Bool
program_fits lengths programs i =
    every
    (leb (get_or lengths i 0) 32
    ∷ all_well_formed (program_in lengths programs i)
    ∷ all_zero (rest_of 256 i (8 * get_or lengths i 0) programs)
    ∷ [])

-- settings below 1,024, none twice
abbrev pub holds : ℕ → List ℕ → Bool
holds s [] = false
holds s (x ∷ l) = eqb x s || holds s l

abbrev pub distinct_settings : List ℕ → Bool
distinct_settings [] = true
distinct_settings (s ∷ l) = ltb s setting_count && (not (holds s l) && distinct_settings l)

-- at most 32 entries, of distinct settings, and zeros behind them
abbrev pub list_fits : List ℕ → List ℕ → List ℤ → ℕ → Bool
list_fits counts settings values i =
    every
    (leb (get_or counts i 0) 32
    ∷ distinct_settings (slots 32 i (get_or counts i 0) settings)
    ∷ all_zero (rest_of 32 i (get_or counts i 0) settings)
    ∷ all_zero_z (rest_of 32 i (get_or counts i 0) values)
    ∷ [])

-- the k-th entry of the order list is a place, and its timestamp is above that of the entry before it
abbrev pub timestamp_of : List ℕ → List ℕ → ℕ → ℕ
timestamp_of order timestamps k = get_or timestamps (get_or order k 0) 0

abbrev pub order_fits : List ℕ → List ℕ → ℕ → ℕ → Bool
order_fits order timestamps n k =
    ltb (get_or order k 0) n && (eqb k 0 || ltb (timestamp_of order timestamps (k - 1)) (timestamp_of order timestamps k))

-- the timestamp of a place is not below the cutoff
abbrev pub from_cutoff : ℕ → List ℕ → ℕ → Bool
from_cutoff cutoff timestamps i = leb cutoff (get_or timestamps i 0)

-- the slots of places that are not held
abbrev pub unused_tests : Tables → ℕ → List Bool
unused_tests T n =
    all_zero (drop n T.timestamps)
    ∷ all_zero (drop n T.order)
    ∷ all_zero (drop n T.status)
    ∷ all_zero (drop n T.withdrawn)
    ∷ all_zero (drop n T.lengths)
    ∷ all_zero (drop (256 * n) T.programs)
    ∷ all_zero (drop n T.reads)
    ∷ all_zero (drop n T.writes)
    ∷ all_zero (drop (32 * n) T.sources)
    ∷ all_zero_z (drop (32 * n) T.seen)
    ∷ all_zero (drop (32 * n) T.targets)
    ∷ all_zero_z (drop (32 * n) T.written)
    ∷ all_zero (drop n T.versions)
    ∷ []

abbrev pub unused_fits : Tables → ℕ → Bool
unused_fits T n = every (unused_tests T n)

-- tables of the right lengths that are in form. That the held timestamps are distinct, and that the order list has every held place, follows. "In form, the cutoff is at most 2^64 − 2 and no held timestamp lies below it" (document 02, R-7)
abbrev pub form_tests : ℕ → Tables → List Bool
form_tests n T =
    let k = held_count T in
    leb k n
    ∷ all_below k (head_fits T.timestamps T.status T.withdrawn T.reads T.writes T.versions)
    ∷ all_below k (order_fits T.order T.timestamps k)
    ∷ all_below k (program_fits T.lengths T.programs)
    ∷ all_below k (list_fits T.reads T.sources T.seen)
    ∷ all_below k (list_fits T.writes T.targets T.written)
    ∷ unused_fits T k
    ∷ ltb (cutoff_in T) infinity
    ∷ all_below k (from_cutoff (cutoff_in T) T.timestamps)
    ∷ []

-- not refusal 2
unfoldable pub in_form : ℕ → Tables → Bool
in_form n T = every (form_tests n T)

-- tables of the right lengths, in form
pub record Formed (n : ℕ) (T : Tables) : Type 0 where
  pub sized : lengths_fit n T ≡ true
  pub form : in_form n T ≡ true
